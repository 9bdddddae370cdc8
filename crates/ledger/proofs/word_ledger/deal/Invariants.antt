use Rattle.std.proofs.Common.{◌≡◌, ◌-◌, ◌≤◌, ℕ, [], length, slice_get, Some, vec_capacity}
use Rattle.ledger.specs.Figures.{figures}
use Rattle.ledger.specs.WordShares.{IsNewShare}
use Rattle.ledger.specs.declared.word_book.WordShare.{WordShare}
use Rattle.ledger.proofs.word_ledger.deal.Given as goal

abbrev pub invariant-loop-number : goal.invariant-loop-number
invariant-loop-number l = record {
  seat : l.seat.table_id ≡ l.book.table.shared.table_id;
  rest : l.seat.me ≡ (figures (64 - l.number) (l.book.owners - l.number) 0 0 0 0 [], []);
  count : length l.shares.items ≡ l.number;
  room : l.book.owners ≤ vec_capacity l.shares;
  each : (place : ℕ) (share : WordShare) → slice_get l.shares.items place ≡ Some share → IsNewShare l.book place share;
}
