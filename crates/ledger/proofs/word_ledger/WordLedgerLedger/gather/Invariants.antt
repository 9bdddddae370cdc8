use Rattle.std.proofs.Common.{◌≡◌, ◌<◌, ◌++◌, List, vec_len}
use Rattle.ledger.specs.Shares.{Adding}
use Rattle.ledger.specs.WordShares.{word_kind}
use Rattle.ledger.specs.declared.word_book.WordLeft.{WordLeft}
use Rattle.ledger.proofs.word_ledger.WordLedgerLedger.gather.Given as goal

abbrev pub invariant-loop-left : goal.invariant-loop-left
invariant-loop-left l = record {
  seat : l.seat.table_id ≡ l.book.table.shared.table_id;
  split : (more : List WordLeft) × (l.lefts.items ++ more ≡ l.fn.lefts.items);
  some : vec_len l.lefts < vec_len l.fn.lefts;
  adding : Adding word_kind l.seat.me.0 l.lefts.items l.fn.lefts.items;
  owed : l.owed ≡ l.seat.me.0.owed;
  cleared : l.cleared ≡ l.seat.me.0.cleared;
}

abbrev pub decreases-loop-left : goal.decreases-loop-left
decreases-loop-left l = vec_len l.lefts
