-- Shares of a book under a lock, and what is left of them.
-- Source: project's choice. Contracts of `LockLedger` alone cite this file; what they say in public
-- is what the trait says in its own words.
use Rattle.std.specs.Prelude.{◌≡◌, ℕ, Bool, false, List, []}
use Rattle.crossbeam_queue.specs.Passes.{view, IsPassOf}
use Rattle.ledger.specs.Shares.{Kind, parts_of_share}
use Rattle.ledger.specs.declared.lock_book.LockBook.{LockBook}
use Rattle.ledger.specs.declared.lock_book.LockLeft.{LockLeft}
use Rattle.ledger.specs.declared.lock_book.LockShare.{LockShare}
use Rattle.ledger.specs.declared.step.LedgerStep.{LedgerStep}

-- the number of the owner that left
abbrev pub number_left : LockLeft → ℕ
number_left left = left.account.number

-- what it owed in all
abbrev pub owed_by : LockLeft → ℕ
owed_by left = left.account.owed

-- what it cleared in all
abbrev pub cleared_by : LockLeft → ℕ
cleared_by left = left.account.cleared

-- whether it had called `stop`
abbrev pub has_called : LockLeft → Bool
has_called left = left.account.called

-- whether it left on quiet
abbrev pub is_quiet : LockLeft → Bool
is_quiet left = left.quiet

-- its steps, the latest first
abbrev pub steps_of : LockShare → List LedgerStep
steps_of share = (view share.pass).figures.steps

-- the steps of a share that left
abbrev pub steps_left : LockLeft → List LedgerStep
steps_left left = (view left.pass).figures.steps

-- the same together, with the figures of its pass
abbrev pub lock_kind : Kind LockLeft
lock_kind = record {
  owed = owed_by;
  cleared = cleared_by;
  called = has_called;
  quiet = is_quiet;
  view = λ left. (view left.pass).figures;
  knows = λ left. left.knows;
  few = λ left. left.few;
}

module _ {R : Type 0} where
  -- how many shares a book has
  abbrev pub owners_of : LockBook R → ℕ
  owners_of book = book.owners

  -- the share is of the book
  abbrev pub IsShareOf : LockBook R → LockShare → Type 0
  IsShareOf book share = IsPassOf book.lock share.pass
      × ((view share.pass).figures.parts ≡ parts_of_share book.owners share.account.number)

  -- what is left of a share is of the book
  abbrev pub IsLeftOf : LockBook R → LockLeft → Type 0
  IsLeftOf book left = IsPassOf book.lock left.pass
      × ((view left.pass).figures.parts ≡ parts_of_share book.owners left.account.number)

  -- the share of this number of the book, which has done nothing yet
  abbrev pub IsNew : LockBook R → ℕ → LockShare → Type 0
  IsNew book number share = IsShareOf book share × (share.account.number ≡ number)
      × (share.account.owed ≡ 1) × (share.account.cleared ≡ 0)
      × (share.account.called ≡ false) × (share.marked ≡ false) × (steps_of share ≡ [])
