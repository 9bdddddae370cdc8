use Rattle.std.proofs.Common.{◌≡◌, ◌+◌, ℕ, Some, slice_get, vec_len}
use Rattle.std.specs.VecDeque.{deque_len}
use Rattle.nll_run_tests.proofs.many_owners.leave_all.Given as goal

abbrev pub invariant-loop-share : goal.invariant-loop-share
invariant-loop-share g l = record {
  count : vec_len l.lefts + deque_len l.coming ≡ vec_len l.fn.shares;
  coming : (k : ℕ) (share : _) → slice_get l.coming.items k ≡ Some share
      → g.L.Ledger.belongs l.book share × (g.L.Ledger.number share ≡ vec_len l.lefts + k);
  lefts : (k : ℕ) (left : _) → slice_get l.lefts.items k ≡ Some left
      → g.L.Ledger.left_belongs l.book left × (g.L.Ledger.left_number left ≡ k);
}

abbrev pub decreases-loop-share : goal.decreases-loop-share
decreases-loop-share g l = deque_len l.coming
