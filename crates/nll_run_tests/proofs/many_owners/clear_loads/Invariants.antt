use Rattle.std.proofs.Common.{◌≡◌, ◌≤◌, ℕ, Some, slice_get, vec_len}
use Rattle.nll_run_tests.proofs.many_owners.clear_loads.Given as goal

abbrev pub invariant-loop-place : goal.invariant-loop-place
invariant-loop-place g l = record {
  count : vec_len l.shares ≡ vec_len l.fn.shares;
  each : (k : ℕ) (share : _) → slice_get l.shares.items k ≡ Some share
      → g.L.Ledger.belongs l.book share × (g.L.Ledger.number share ≡ k) × (g.L.Ledger.cleared share ≤ l.place);
}
