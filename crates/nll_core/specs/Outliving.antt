-- What the fault check takes from the outlives facts, and how it goes through the pairs of
-- universal regions in order. Source: project's choice. Only private contracts cite this file.
use Rattle.std.specs.Prelude.{◌≡◌, ◌≢◌, ◌↔◌, ℕ, Bool, false, List, Contains, AllPairs}
use Rattle.nll_problem.specs.Problem.{Problem, IsUniversal, end_of}
use Rattle.nll_problem.specs.Faults.{IsEarlier, IsFault, IsKnown}
use Rattle.nll_core.specs.Search.{IsIn}
use Rattle.nll_core.specs.Values.{holds, IsHeld}

-- a fact of the list says that some region outlives b
abbrev pub IsShorterOf : List (ℕ × ℕ) → ℕ → Type 0
IsShorterOf facts b = (a : ℕ) × Contains facts (a, b)

-- the set has exactly the regions that a is known to outlive
abbrev pub AreOutlived : Problem → ℕ → List Bool → Type 0
AreOutlived q a outlived = (b : ℕ) → IsIn outlived b ↔ IsKnown q a b

-- the region a doesn't hold the end of another universal region
abbrev pub HasNoForeignEnd : Problem → List (List Bool) → ℕ → Type 0
HasNoForeignEnd q values a = (b : ℕ) → IsUniversal q b → b ≢ a → holds values a (end_of q b) ≡ false

-- the list has exactly the pairs of this kind that come before (a, b)
abbrev pub ListsUpTo : (ℕ → ℕ → Type 0) → List (ℕ × ℕ) → ℕ → ℕ → Type 0
ListsUpTo kind pairs a b = (x y : ℕ) → Contains pairs (x, y) ↔ (kind x y × IsEarlier (x, y) (a, b))

-- The list is of the faults before (a, b), each once and in order.
pub record FindsUpTo (q : Problem) (values : List (List Bool)) (faults : List (ℕ × ℕ)) (a b : ℕ)
    : Type 0 where
  pub each : ListsUpTo (IsFault q (IsHeld values)) faults a b
  pub ordered : AllPairs IsEarlier faults
