-- What is left of the shares of a book, of any kind of ledger, and their figures added up.
-- Source: project's choice. Private contracts alone cite this file.
use Rattle.std.specs.Prelude.{◌≡◌, ◌==◌, ℕ, ◌+◌, ◌-◌, ◌<◌, Bool, true, cond, not}
use Rattle.std.specs.Prelude.{List, length, slice_get, Some}
use Rattle.std.specs.List.{sum_by}
use Rattle.ledger.specs.Amounts.{total_bound}
use Rattle.ledger.specs.Figures.{bit, figures}
use Rattle.ledger.specs.declared.figures.Figures.{Figures}
use Rattle.fixpoint.specs.Limits.{most_parts}

-- how many of the 64 parts of a whole the share of this number has: one, and the last of so many
-- shares all that are left
abbrev pub parts_of_share : ℕ → ℕ → ℕ
parts_of_share owners number = cond (number + 1 == owners) (most_parts + 1 - owners) 1

-- what is left of a share, of some kind of ledger: what the share owed and cleared in all, whether
-- it had called `stop`, whether it left on quiet, and its figures, which say the same
pub record Kind (L : Type 0) : Type 0 where
  pub owed : L → ℕ
  pub cleared : L → ℕ
  pub called : L → Bool
  pub quiet : L → Bool
  pub view : L → Figures
  pub knows : (left : L) → view left ≡ figures (view left).parts (owed left) (cleared left)
      (cond (quiet left) (view left).parts 0) (bit (called left)) (bit (not (quiet left)))
      (view left).steps
  pub few : (left : L) → (owed left < total_bound) × (cleared left < total_bound)

-- the figures so far, and those of the shares that are still to come, are those of all shares
pub record Adding {L : Type 0} (kind : Kind L) (so_far : Figures) (coming lefts : List L)
    : Type 0 where
  pub parts : so_far.parts + length coming ≡ most_parts
  pub owed : so_far.owed + sum_by kind.owed coming ≡ sum_by kind.owed lefts
  pub cleared : so_far.cleared + sum_by kind.cleared coming ≡ sum_by kind.cleared lefts
  pub quiets : ((place : ℕ) (left : L) → slice_get lefts place ≡ Some left
      → kind.quiet left ≡ true) → so_far.quiets ≡ so_far.parts
  pub calls : so_far.calls + sum_by (λ left. bit (kind.called left)) coming
      ≡ sum_by (λ left. bit (kind.called left)) lefts
  pub finds : so_far.finds + sum_by (λ left. bit (not (kind.quiet left))) coming
      ≡ sum_by (λ left. bit (not (kind.quiet left))) lefts
