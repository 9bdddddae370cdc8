use Rattle.std.proofs.Common.{◌≡◌, ◌<◌, ℕ, map, drop, length}
use Rattle.run.specs.Table.{list_at}
use Rattle.run.specs.Settling.{ArePostsOf, ComeBefore, InRows, sent_at, got_by}
use Rattle.run.proofs.settlement.settle_all.Given as goal

abbrev pub invariant-loop-from : goal.invariant-loop-from
invariant-loop-from g l =
    let m = g.M.Mail in
    record {
      rows : map (λ c. c.items) l.rows.items ≡ drop l.from (map (λ c. c.items) l.initial.rows.items);
      count : length (map (λ c. c.items) l.columns.items) ≡ length (map (λ c. c.items) l.fn.columns.items);
      cut : (j : ℕ) → j < l.owners → list_at (map (λ c. c.items) l.columns.items) j
          ≡ drop l.from (list_at (map (λ c. c.items) l.fn.columns.items) j);
      order : ComeBefore m.post_ends l.posts.items (l.from, 0);
      posts : ArePostsOf m (sent_at m.all_sent (map (λ c. c.items) l.initial.rows.items))
          (got_by m.received (map (λ c. c.items) l.fn.columns.items)) (InRows l.from l.owners) l.posts.items;
    }
