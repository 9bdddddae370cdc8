-- What values gain, insert after insert, and whether something new came.
use Rattle.std.proofs.Common.{◌≡◌, ◌≢◌, ℕ, ◌<◌, Bool, true, false, not, ◌||◌, List, [], replicate, length, set, refl, ap, ◌∙◌, inl, arith}
use Rattle.std.proofs.lemmas.Bool.{cases_lt, cases_eq, false≢true, true≢false, not-false, not-true}
use Rattle.std.proofs.lemmas.List.{get_or-set_other, get_or-set_same, length-set, set-get_or, get_or_past, get_or-replicate, length-replicate}
use Rattle.std.proofs.lemmas.List.Sums.{sum_by-set}
use Rattle.nll_sets.specs.ElementSet.{flag}
use Rattle.nll_core.specs.Values.{set_of, holds, IsHeld, with_element}
use Rattle.nll_core.specs.Growing.{Gains, Tells}
use Rattle.nll_core.proofs.SearchLemmas.{missing_one, none_in_empty}

-- ---- one element more

module _ (values : List (List Bool)) (region e : ℕ) (within : region < length values)
    (below : e < length (set_of values region)) where
  -- the set of the region after the insert
  abbrev row : List Bool
  row = set (set_of values region) e true

  row_here : set_of (with_element values region e) region ≡ row
  row_here = get_or-set_same values region row [] within

  row_other : (r : ℕ) → r ≢ region → set_of (with_element values region e) r ≡ set_of values r
  row_other r other = get_or-set_other values region r row [] other

  pub held_one : IsHeld (with_element values region e) region e
  held_one = ap (λ x. flag x e) row_here ∙ get_or-set_same (set_of values region) e true false below

  pub gains_one : (kind : ℕ → ℕ → Type 0) → kind region e → Gains kind values (with_element values region e)
  gains_one kind h = grind (arith, length-set, row_here, row_other, cases_eq, get_or-set_same, get_or-set_other)

  pub tells_one : Tells (not (holds values region e)) values (with_element values region e)
  tells_one = grind (arith, not-false, set-get_or, missing_one, not-true, sum_by-set)

-- ---- none, and some after some

module _ (kind : ℕ → ℕ → Type 0) where
  pub gains_none : (values : List (List Bool)) → Gains kind values values
  gains_none values = record { width = refl; widths = λ r. refl; kept = λ r e h. h; cause = λ r e h. inl h }

  pub gains_append : (old middle new : List (List Bool)) → Gains kind old middle → Gains kind middle new
      → Gains kind old new
  gains_append old middle new p q = grind arith

-- what is of a kind is of any larger kind
pub gains_weaker : (kind larger : ℕ → ℕ → Type 0) → ((r e : ℕ) → kind r e → larger r e) → (old new : List (List Bool))
    → Gains kind old new → Gains larger old new
gains_weaker kind larger has old new p = grind arith

pub tells_none : (values : List (List Bool)) → Tells false values values
tells_none values = record { same = λ h. refl; fewer = λ h. absurd (false≢true h) }

pub tells_append : (x y : Bool) (old middle new : List (List Bool)) → Tells x old middle → Tells y middle new
    → Tells (x || y) old new
tells_append true true old middle new p q =
    record { same = λ h. absurd (true≢false h); fewer = λ h. omega (arith, p.fewer refl, q.fewer refl) }
tells_append true false old middle new p q = grind (arith, true≢false)
tells_append false true old middle new p q = grind (arith, true≢false)
tells_append false false old middle new p q =
    record { same = λ h. q.same refl ∙ p.same refl; fewer = λ h. absurd (false≢true h) }

-- empty values hold nothing
pub nothing_held : (regions elements r e : ℕ) → IsHeld (replicate regions (replicate elements false)) r e → ⊥
nothing_held regions elements r e h =
    grind (arith, none_in_empty, get_or-replicate, false≢true, get_or_past, length-replicate, cases_lt)
