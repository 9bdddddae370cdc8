-- The blocks that begin at a point or before it.
use Rattle.std.proofs.Common.{◌≡◌, ℕ, zero, suc, ◌-◌, ◌<◌, ◌≤◌, Bool, true, false, leb, List, [], ◌∷◌, Some, take, filter, slice_get, slice_index_or, length, refl, ap, ⊎_elim, arith}
use Rattle.std.specs.List.Sorted.{IsPartitionPoint, IsNonDecreasing, IsStrictlyIncreasing}
use Rattle.std.proofs.lemmas.Bool.{cases_eq, le-leb, leb-true}
use Rattle.std.proofs.lemmas.List.Kept.{AllPairs-from_increasing}
use Rattle.std.proofs.lemmas.List.{get_or-take}
use Rattle.std.proofs.lemmas.List.Elements.{filter_passes}
use Rattle.nll_format.specs.Labels.{begun_blocks, AreFirstPoints}

-- of a list whose front passes and whose rest doesn't, the front is what passes
pub filter_front : (p : ℕ → Bool) (xs : List ℕ) (i : ℕ) → i ≤ length xs
    → IsPartitionPoint (λ y. p y ≡ true) (λ y. p y ≡ false) xs i → filter p xs ≡ take i xs
filter_front p [] zero within parts = refl
filter_front p [] (suc i) within parts = refl
filter_front p (x ∷ xs) zero within parts =
    rw (parts.1 0 0 (omega arith) (omega arith))
    (filter_front p xs zero (omega arith)
    ((λ k d low high. absurd (omega arith)), (λ k d low high. parts.1 (suc k) d (omega arith) (omega arith))))
filter_front p (x ∷ xs) (suc i) within parts =
    rw (parts.0 0 0 (omega arith) (omega arith))
    (ap (λ (ys : List ℕ). x ∷ ys) (filter_front p xs i (omega arith) (
      (λ k d low high. parts.0 (suc k) d (omega arith) (omega arith)),
      (λ k d low high. parts.1 (suc k) d (omega arith) (omega arith)),
    )))

-- numbers that rise don't fall
pub not_falling : (xs : List ℕ) → IsStrictlyIncreasing xs → IsNonDecreasing xs
not_falling xs rise i j d below within = ⊎_elim
    (λ same. rw same (omega arith))
    (λ other. let h = AllPairs-from_increasing xs rise i j d (omega arith) within in omega (arith, h))
    (cases_eq i j)

-- the k-th of numbers that rise is at least k
pub at_least : (xs : List ℕ) → IsStrictlyIncreasing xs → (k : ℕ) → k < length xs → k ≤ slice_index_or xs k 0
at_least xs rise zero within = omega arith
at_least xs rise (suc k) within =
    omega (arith, at_least xs rise k (omega arith), AllPairs-from_increasing xs rise k (suc k) 0 (omega arith) within)

-- the first block begins at each point or before it
pub some_begun : (starts : List ℕ) (p : ℕ) → AreFirstPoints starts → 0 < length (begun_blocks starts p)
some_begun starts p h = by starts h.at_zero
  where
    by : (xs : List ℕ) → slice_get xs 0 ≡ Some 0 → 0 < length (begun_blocks xs p)
    by [] e = absurd cc
    by (x ∷ xs) e = let zero_first : x ≡ 0 = cc in rw zero_first (rw (le-leb 0 p (omega arith)) (omega arith))

-- the last of the blocks in front begins at the point or before it
pub last_begun : (starts : List ℕ) (p n : ℕ) → 1 ≤ n → n ≡ length (begun_blocks starts p)
    → begun_blocks starts p ≡ take n starts
    → slice_index_or starts (n - 1) 0 ≤ p
last_begun starts p n some count front = grind (arith, leb, slice_index_or, filter_passes, get_or-take, leb-true)
