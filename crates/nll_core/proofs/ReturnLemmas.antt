-- The return points of a graph as a list.
use Rattle.std.proofs.Common.{◌≡◌, ◌↔◌, ℕ, ◌+◌, ◌<◌, ◌≤◌, true, false, ltb, List, [], ◌∷◌, ◌++◌, AllPairs, Contains, length, get_or, ◌∙◌, subst, ⊎_elim, arith}
use Rattle.std.proofs.lemmas.Bool.{cases_eq, cases_lt, ltb-true, ltb-false}
use Rattle.std.proofs.lemmas.List.{get_or_default}
use Rattle.std.proofs.lemmas.List.Elements.{Contains-push, Contains-push_cases, Contains-append_left}
use Rattle.std.specs.List.Sorted.{IsNonDecreasingBy, IsPartitionPoint}
use Rattle.nll_problem.proofs.IndexLemmas.{keys_rise}
use Rattle.nll_problem.specs.Graph.{Graph, IsReturn, IsSound}
use Rattle.nll_core.specs.Lines.{AreReturns}
use Rattle.nll_core.proofs.StartLemmas.{ascending_push}

module _ (list : List ℕ) (up : AllPairs (λ x y. x < y) list) where
  -- they rise
  pub returns_rise : IsNonDecreasingBy (λ (x : ℕ). x) list
  returns_rise = keys_rise (λ (x : ℕ). x) (λ x y. x < y) (λ x y h. omega (arith, h)) list up

  module _ (from at : ℕ) (parted : IsPartitionPoint (λ x. ltb x from ≡ true) (λ x. ltb x from ≡ false) list at) where
    -- the one at the place isn't below the number
    pub return_found : at < length list → from ≤ get_or list at 0
    return_found within = omega (arith, ltb-false _ from (parted.1 at 0 (omega arith) within))

    -- and is the least such one
    pub return_least : (x : ℕ) → Contains list x → from ≤ x → (at < length list) × (get_or list at 0 ≤ x)
    return_least x (k, within, is) low =
        let value : get_or list k 0 ≡ x = get_or_default list k 0 x within ∙ is in
        ⊎_elim
        (λ early. absurd (omega (arith, ltb-true _ from (parted.0 k 0 (omega arith) early), value, low)))
        (λ late. ⊎_elim
        (λ same. (omega (arith, same, within), subst (λ n. get_or list n 0 ≤ x) same (omega (arith, value))))
        (λ other. let less = up at k 0 (omega (arith, late, other)) within in
        (omega (arith, late, within), omega (arith, less, value)))
        (cases_eq k at))
        (cases_lt k at)

-- ---- how the list is made

-- the list has just the return points below a number
abbrev pub AreReturnsTo : Graph → ℕ → List ℕ → Type 0
AreReturnsTo g p points =
    AllPairs (λ x y. x < y) points × ((x : ℕ) → Contains points x ↔ ((x < p) × IsReturn g x))

pub returns_more : (g : Graph) (p : ℕ) (old : List ℕ) → AreReturnsTo g p old → IsReturn g p
    → AreReturnsTo g (p + 1) (old ++ p ∷ [])
returns_more g p old are back = (
  ascending_push p old are.0 (λ x h. ((are.1 x).0 h).0),
  λ x. (
    λ h. ⊎_elim
        (λ before. let w = (are.1 x).0 before in (omega (arith, w.0), w.1))
        (λ same. (omega (arith, same), subst (IsReturn g) same back))
        (Contains-push_cases old p x h),
    λ w. ⊎_elim
        (λ lt. Contains-append_left old (p ∷ []) x ((are.1 x).1 (lt, w.1)))
        (λ le. subst (λ y. Contains (old ++ p ∷ []) y) (omega (arith, w.0, le)) (Contains-push old p))
        (cases_lt x p),
  ),
)

pub returns_same : (g : Graph) (p : ℕ) (points : List ℕ) → AreReturnsTo g p points → (IsReturn g p → ⊥)
    → AreReturnsTo g (p + 1) points
returns_same g p points are isnt = (
  are.0,
  λ x. (
    λ h. let w = (are.1 x).0 h in (omega (arith, w.0), w.1),
    λ w. ⊎_elim
        (λ lt. (are.1 x).1 (lt, w.1))
        (λ le. absurd (isnt (subst (IsReturn g) (omega (arith, w.0, le)) w.1)))
        (cases_lt x p),
  ),
)

pub returns_all : (g : Graph) → IsSound g → (p : ℕ) (points : List ℕ) → g.points ≤ p → AreReturnsTo g p points
    → AreReturns g points
returns_all g sound p points end are = (
  are.0,
  λ x. (
    λ h. ((are.1 x).0 h).1,
    λ back. (are.1 x).1 (omega (arith, sound.returns_in_range x back, end), back),
  ),
)
