-- Shares of a book of two words, and what is left of them.
-- Source: project's choice. Contracts of `WordLedger` alone cite this file; what they say in public
-- is what the trait says in its own words.
use Rattle.std.specs.Prelude.{◌≡◌, ℕ, false, []}
use Rattle.ledger.specs.Shares.{Kind, parts_of_share}
use Rattle.ledger.specs.declared.word_book.WordBook.{WordBook}
use Rattle.ledger.specs.declared.word_book.WordLeft.{WordLeft}
use Rattle.ledger.specs.declared.word_book.WordShare.{WordShare}

-- how what is left of a share is read
abbrev pub word_kind : Kind WordLeft
word_kind = record {
  owed = λ left. left.account.owed;
  cleared = λ left. left.account.cleared;
  called = λ left. left.account.called;
  quiet = λ left. left.quiet;
  view = λ left. left.seat.me.0;
  knows = λ left. left.knows;
  few = λ left. left.few;
}

-- the share is of the book
abbrev pub IsWordShare : WordBook → WordShare → Type 0
IsWordShare book share = (share.seat.table_id ≡ book.table.shared.table_id)
    × (share.seat.me.0.parts ≡ parts_of_share book.owners share.account.number)

-- what is left of a share is of the book
abbrev pub IsWordLeft : WordBook → WordLeft → Type 0
IsWordLeft book left = (left.seat.table_id ≡ book.table.shared.table_id)
    × (left.seat.me.0.parts ≡ parts_of_share book.owners left.account.number)

-- the share of this number of the book, which has done nothing yet
abbrev pub IsNewShare : WordBook → ℕ → WordShare → Type 0
IsNewShare book number share = IsWordShare book share × (share.account.number ≡ number)
    × (share.account.owed ≡ 1) × (share.account.cleared ≡ 0)
    × (share.account.called ≡ false) × (share.marked ≡ false) × (share.seat.me.0.steps ≡ [])
