use Rattle.std.proofs.Common.{◌≡◌, ◌<◌, ◌++◌, false, List, vec_len}
use Rattle.crossbeam_queue.specs.Passes.{view, IsPassOf}
use Rattle.ledger.specs.LockShares.{lock_kind}
use Rattle.ledger.specs.Shares.{Adding}
use Rattle.ledger.specs.declared.lock_book.LockLeft.{LockLeft}
use Rattle.ledger.proofs.lock_ledger.LockLedgerLedger.gather.Given as goal

abbrev pub invariant-loop-left : goal.invariant-loop-left
invariant-loop-left g l = record {
  pass : IsPassOf l.book.lock l.pass;
  free : (view l.pass).holds ≡ false;
  split : (more : List LockLeft) × (l.lefts.items ++ more ≡ l.fn.lefts.items);
  some : vec_len l.lefts < vec_len l.fn.lefts;
  adding : Adding lock_kind (view l.pass).figures l.lefts.items l.fn.lefts.items;
  owed : l.owed ≡ (view l.pass).figures.owed;
  cleared : l.cleared ≡ (view l.pass).figures.cleared;
}

abbrev pub decreases-loop-left : goal.decreases-loop-left
decreases-loop-left g l = vec_len l.lefts
