use Rattle.std.proofs.Common.{◌≡◌, ◌≤◌, ◌++◌, ◌+◌, [], ℕ, map, length, slice_get, Some, vec_capacity}
use Rattle.std.specs.VecDeque.{deque_len}
use Rattle.run.proofs.mailboxes.make_workers.Given as goal

abbrev pub invariant-loop-me : goal.invariant-loop-me
invariant-loop-me g l = record {
  row_count : deque_len l.rows + l.me ≡ l.owners;
  column_count : deque_len l.columns + l.me ≡ l.owners;
  share_count : deque_len l.shares + l.me ≡ l.owners;
  count : length l.workers.items ≡ l.me;
  rows : map (λ w. w.outbox.senders.items) l.workers.items ++ map (λ o. o.senders.items) l.rows.items
      ≡ map (λ o. o.senders.items) l.initial.rows.items;
  columns : map (λ w. w.receivers.items) l.workers.items ++ map (λ c. c.items) l.columns.items
      ≡ map (λ c. c.items) l.initial.columns.items;
  shares : map (λ w. w.share) l.workers.items ++ l.shares.items ≡ l.initial.shares.items;
  each : (k : ℕ) (w : _) → slice_get l.workers.items k ≡ Some w
      → (w.me ≡ k) × (w.room.items ≡ []) × (l.owners ≤ vec_capacity w.room);
}
