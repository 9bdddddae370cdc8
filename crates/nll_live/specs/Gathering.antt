-- How points are listed by the variables that they use or drop. Source: project's choice. Only
-- private contracts cite this file.
use Rattle.std.specs.Prelude.{◌≡◌, ◌⊎◌, ◌↔◌, ℕ, ◌<◌, List, length, AllPairs, Contains}
use Rattle.nll_problem.specs.Rows.{row_at}

-- p is in the list of x
abbrev pub IsListed : List (List ℕ) → ℕ → ℕ → Type 0
IsListed lists x p = Contains (row_at lists x) p

-- The point was appended to the lists of the variables of this kind, as far as there are lists.
pub record Lists (kind : ℕ → Type 0) (p : ℕ) (old new : List (List ℕ)) : Type 0 where
  pub counted : length new ≡ length old
  pub each : (x q : ℕ) → x < length new
      → IsListed new x q ↔ (IsListed old x q ⊎ (kind x × (q ≡ p)))

-- There are this many lists, and each has the points below n of which this holds.
pub record AreListed (count : ℕ) (holds : ℕ → ℕ → Type 0) (n : ℕ) (lists : List (List ℕ)) : Type 0
  where
    pub counted : length lists ≡ count
    pub each : (x p : ℕ) → x < count → IsListed lists x p ↔ (holds x p × (p < n))

-- each list ascends, and has points below n alone
abbrev pub AscendBelow : ℕ → List (List ℕ) → Type 0
AscendBelow n lists =
    (x : ℕ) → AllPairs ◌<◌ (row_at lists x) × ((p : ℕ) → IsListed lists x p → p < n)
