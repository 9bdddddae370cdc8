-- Points that ascend, and the least of them that isn't below a number.
use Rattle.std.proofs.Common.{◌≡◌, ℕ, ◌<◌, ◌≤◌, true, false, ltb, List, [], ◌∷◌, ◌++◌, Contains, length, get_or, ap, ◌∙◌, ⊎_elim, arith, zero, suc}
use Rattle.std.proofs.lemmas.Bool.{cases_eq, cases_lt, ltb-true, ltb-false}
use Rattle.std.proofs.lemmas.List.{get_or_default}
use Rattle.std.proofs.lemmas.List.Quantifiers.{all_pairs_push}
use Rattle.std.specs.List.Sorted.{IsNonDecreasingBy, IsPartitionPoint}
use Rattle.nll_problem.proofs.IndexLemmas.{keys_rise}
use Rattle.nll_core.specs.Frontiers.{IsAscending}

-- numbers ascend with one more that is above all of them
pub ascending_push : (at : ℕ) (xs : List ℕ) → IsAscending xs → ((x : ℕ) → Contains xs x → x < at)
    → IsAscending (xs ++ at ∷ [])
ascending_push at xs up below = all_pairs_push (λ x y. x < y) xs at up
    (λ k d l. below (get_or xs k d) (k, l, get_or_default xs k (get_or xs k d) d l))

module _ (first from at : ℕ) (others : List ℕ) (up : IsAscending (first ∷ others)) (past : first < from)
    (parted : IsPartitionPoint (λ x. ltb x from ≡ true) (λ x. ltb x from ≡ false) others at) where
  -- what isn't below the number stands behind the first number, at the place or behind it
  behind : (x : ℕ) → Contains (first ∷ others) x → from ≤ x
      → (k : ℕ) × (at ≤ k) × (k < length others) × (get_or others k 0 ≡ x)
  behind x (zero, within, is) low = absurd (omega (arith, is, low, past))
  behind x (suc k, within, is) low =
      let here : k < length others = omega (arith, within) in
      let value : get_or others k 0 ≡ x = get_or_default others k 0 x here ∙ is in (
        k,
        ⊎_elim (λ early. absurd (omega (arith, ltb-true _ from (parted.0 k 0 (omega arith) early), value, low)))
            (λ le. le) (cases_lt k at),
        here,
        value,
      )

  pub least_found : (s : ℕ) → at < length others → get_or others at 0 ≡ s
      → (Contains (first ∷ others) s × (from ≤ s)) × ((x : ℕ) → Contains (first ∷ others) x → from ≤ x → s ≤ x)
  least_found s within is = (
    (
      (suc at, omega (arith, within), get_or_default others at s 0 within ∙ is),
      omega (arith, ltb-false _ from (parted.1 at 0 (omega arith) within), is),
    ),
    λ x h low. let b = behind x h low in ⊎_elim
        (λ same. omega (arith, ap (λ i. get_or others i 0) same, is, b.3))
        (λ other. let less = up (suc at) (suc b.0) 0 (omega (arith, b.1, other)) (omega (arith, b.2)) in
        omega (arith, less, is, b.3))
        (cases_eq b.0 at),
  )

  pub none_found : length others ≤ at → (x : ℕ) → Contains (first ∷ others) x → x < from
  none_found end x h =
      ⊎_elim (λ lt. lt) (λ low. let b = behind x h low in absurd (omega (arith, b.1, b.2, end))) (cases_lt x from)

-- the first number is the least
pub first_least : (first : ℕ) (others : List ℕ) → IsAscending (first ∷ others) → (x : ℕ) → Contains (first ∷ others) x
    → first ≤ x
first_least first others up x (zero, within, is) = omega (arith, is)
first_least first others up x (suc k, within, is) = let less = up 0 (suc k) x (omega arith) within in
    omega (arith, less, is)

-- the others rise
pub others_rise : (first : ℕ) (others : List ℕ) → IsAscending (first ∷ others) → IsNonDecreasingBy (λ (x : ℕ). x) others
others_rise first others up =
    keys_rise (λ (x : ℕ). x) (λ x y. x < y) (λ x y h. omega (arith, h)) others
    (λ i j d before within. up (suc i) (suc j) d (omega (arith, before)) (omega (arith, within)))
