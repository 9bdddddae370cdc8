-- A run in the value of a region, and a copy of another region's value.
use Rattle.std.proofs.Common.{◌≡◌, ◌≢◌, ℕ, ◌+◌, ◌-◌, ◌<◌, ◌≤◌, Bool, true, false, List, [], length, get_or, set, sym, subst, ap, ◌∙◌, arith, Result, Ok, Err, OnOk, IfOk}
use Rattle.std.proofs.lemmas.Bool.{cases_eq, false_from_ne_true}
use Rattle.std.proofs.lemmas.List.{get_or-set_other, get_or-set_same, length-set, set-get_or}
use Rattle.std.proofs.lemmas.List.Sums.{sum_by-set}
use Rattle.nll_sets.specs.ElementSet.{flag}
use Rattle.nll_sets.specs.Runs.{Fills, IsWithin}
use Rattle.nll_sets.specs.declared.run.Run.{Run}
use Rattle.nll_sets.proofs.RunSetLemmas.{same_flags}
use Rattle.nll_core.specs.Growing.{Gains, Tells, missing_pairs}
use Rattle.nll_core.specs.Values.{set_of, IsHeld}
use Rattle.nll_core.specs.Search.{missing}
use Rattle.nll_core.proofs.WalkingLemmas.{missing_less, missing_run}

tells_row : (values : List (List Bool)) (region : ℕ) (old row : List Bool) (run : Run) (changed : Bool)
    → region < length values → old ≡ get_or values region [] → Fills old row run
    → (changed ≡ false → row ≡ old) → (changed ≡ true → (x : ℕ) × IsWithin run x × (flag old x ≡ false))
    → Tells changed values (set values region row)
tells_row values region old row run changed within is f same fresh = grind (arith, set-get_or, missing_less, sum_by-set)

pub tells_filled : (values : List (List Bool)) (region : ℕ) (old row : List Bool) (run : Run) {E : Type 0}
    (r : Result Bool E) → region < length values → old ≡ get_or values region [] → OnOk r (Fills old row run)
    → IfOk r (λ new. new ≡ false → row ≡ old)
    → IfOk r (λ new. new ≡ true → (x : ℕ) × IsWithin run x × (flag old x ≡ false))
    → IfOk r (λ new. Tells new values (set values region row))
tells_filled values region old row run (Ok changed) within is f same fresh =
    tells_row values region old row run changed within is f same fresh
tells_filled values region old row run (Err e) within is f same fresh = f

-- where none of the run was there, as many fewer are missing as it has numbers
pub fewer_filled : (values : List (List Bool)) (region : ℕ) (old row : List Bool) (run : Run) {E : Type 0}
    (r : Result Bool E) → region < length values → run.first ≤ run.last → old ≡ get_or values region []
    → OnOk r (Fills old row run)
    → OnOk r (((e : ℕ) → IsWithin run e → IsHeld values region e → ⊥)
    → missing_pairs (set values region row) + (run.last + 1 - run.first) ≤ missing_pairs values)
fewer_filled values region old row run (Ok changed) within proper is f = λ lacks.
    let lacked : (x : ℕ) → run.first ≤ x → x < run.first + (run.last + 1 - run.first)
    → flag old x ≡ false =
    λ x a b. false_from_ne_true _ (λ h. lacks x (a, omega (arith, b, proper)) (subst (λ xs. flag xs x ≡ true) is h))
    in
    let there : (x : ℕ) → run.first ≤ x → x < run.first + (run.last + 1 - run.first)
    → flag row x ≡ true = λ x a b. f.filled x a (omega (arith, b, proper)) in
    omega (
      arith,
      missing_run old row run.first (run.last + 1 - run.first) f.width f.kept lacked there,
      sum_by-set missing values region row [] within,
      ap missing is,
    )
fewer_filled values region old row run (Err e) within proper is f = f

-- the region gains the numbers of the run, and nothing else
gains_row : (values : List (List Bool)) (region : ℕ) (old row : List Bool) (run : Run) → region < length values
    → old ≡ get_or values region [] → Fills old row run
    → Gains (λ r e. (r ≡ region) × IsWithin run e) values (set values region row)
gains_row values region old row run within is f = grind (arith, get_or-set_same, get_or-set_other, length-set, cases_eq)

pub gains_filled : (values : List (List Bool)) (region : ℕ) (old row : List Bool) (run : Run) {E : Type 0}
    (r : Result Bool E) → region < length values → old ≡ get_or values region [] → OnOk r (Fills old row run)
    → OnOk r (Gains (λ r e. (r ≡ region) × IsWithin run e) values (set values region row))
gains_filled values region old row run (Ok changed) within is f = gains_row values region old row run within is f
gains_filled values region old row run (Err e) within is f = f

-- and holds them
pub covers_filled : (values : List (List Bool)) (region : ℕ) (old row : List Bool) (run : Run) {E : Type 0}
    (r : Result Bool E) → region < length values → OnOk r (Fills old row run)
    → OnOk r ((e : ℕ) → IsWithin run e → IsHeld (set values region row) region e)
covers_filled values region old row run (Ok changed) within f =
    λ e w. ap (λ x. flag x e) (get_or-set_same values region row [] within) ∙ f.filled e w.0 w.1
covers_filled values region old row run (Err e) within f = f

-- ---- a region that held nothing gets the value of another one

module _ (values : List (List Bool)) (sub sup : ℕ) (within : sup < length values)
    (widths : length (set_of values sub) ≡ length (set_of values sup))
    (nothing : (e : ℕ) → IsHeld values sup e → ⊥) where
  abbrev copied : List (List Bool)
  copied = set values sup (set_of values sub)

  copied_here : set_of copied sup ≡ set_of values sub
  copied_here = get_or-set_same values sup (set_of values sub) [] within

  copied_other : (r : ℕ) → r ≢ sup → set_of copied r ≡ set_of values r
  copied_other r other = get_or-set_other values sup r (set_of values sub) [] other

  pub covers_copied : (e : ℕ) → IsHeld values sub e → IsHeld copied sup e
  covers_copied e h = ap (λ x. flag x e) copied_here ∙ h

  pub gains_copied : Gains (λ r e. (r ≡ sup) × IsHeld values sub e) values copied
  gains_copied = grind (arith, length-set, copied_here, copied_other, cases_eq)

  pub tells_copied : (new : Bool) → (new ≡ false → (e : ℕ) → IsHeld values sub e → ⊥)
      → (new ≡ true → (e : ℕ) × IsHeld values sub e) → Tells new values copied
  tells_copied new none some = record {
    same = λ h. ap (set values sup) (same_flags (set_of values sub) (set_of values sup) widths
        (λ x. false_from_ne_true _ (none h x) ∙ sym (false_from_ne_true _ (nothing x)))) ∙ set-get_or values sup [];
    fewer = grind (arith, missing_less, false_from_ne_true, sum_by-set);
  }
