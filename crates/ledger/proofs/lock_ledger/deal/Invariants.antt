use Rattle.std.proofs.Common.{◌≡◌, ◌-◌, ◌≤◌, ℕ, false, [], length, slice_get, Some, vec_capacity}
use Rattle.crossbeam_queue.specs.Passes.{view, IsPassOf}
use Rattle.ledger.specs.Figures.{figures}
use Rattle.ledger.specs.LockShares.{IsNew}
use Rattle.ledger.specs.declared.lock_book.LockShare.{LockShare}
use Rattle.ledger.proofs.lock_ledger.deal.Given as goal

abbrev pub invariant-loop-number : goal.invariant-loop-number
invariant-loop-number g l = record {
  pass : IsPassOf l.book.lock l.pass;
  free : (view l.pass).holds ≡ false;
  rest : (view l.pass).figures ≡ figures (64 - l.number) (l.book.owners - l.number) 0 0 0 0 [];
  count : length l.shares.items ≡ l.number;
  room : l.book.owners ≤ vec_capacity l.shares;
  each : (place : ℕ) (share : LockShare) → slice_get l.shares.items place ≡ Some share → IsNew l.book place share;
}
