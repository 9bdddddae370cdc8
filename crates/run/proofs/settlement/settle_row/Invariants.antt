use Rattle.std.proofs.Common.{◌≡◌, ◌<◌, ◌≤◌, ℕ, map, drop, length}
use Rattle.fixpoint.specs.Logs.{log_of}
use Rattle.worker.specs.Mailboxes.{through}
use Rattle.run.specs.Table.{list_at}
use Rattle.run.specs.Settling.{AddsPosts, InRow, ComeBefore}
use Rattle.run.proofs.settlement.settle_row.Given as goal

abbrev pub invariant-loop-to : goal.invariant-loop-to
invariant-loop-to g l =
    let m = g.M.Mail in
    record {
      row : l.row.items ≡ drop l.to l.initial.row.items;
      count : length (map (λ c. c.items) l.columns.items) ≡ length (map (λ c. c.items) l.fn.columns.items);
      cut : (j : ℕ) → j < l.to → list_at (map (λ c. c.items) l.columns.items) j
          ≡ drop 1 (list_at (map (λ c. c.items) l.fn.columns.items) j);
      others : (j : ℕ) → l.to ≤ j → list_at (map (λ c. c.items) l.columns.items) j
          ≡ list_at (map (λ c. c.items) l.fn.columns.items) j;
      order : ComeBefore m.post_ends l.posts.items (l.from, l.to);
      posts : AddsPosts m (λ _ j. log_of (map (through m.all_sent) l.initial.row.items) j)
          (λ _ j. log_of (map (through m.received) (list_at (map (λ c. c.items) l.fn.columns.items) j)) 0)
          (InRow l.from l.to) l.fn.posts.items l.posts.items;
    }
