-- The values of regions as contracts see them: for each region, one flag for each element.
-- Source: project's choice.
use Rattle.std.specs.Prelude.{◌≡◌, ℕ, ◌<◌, Bool, true, false}
use Rattle.std.specs.Prelude.{List, [], replicate, length, slice_index_or, slice_set}
use Rattle.nll_sets.specs.ElementSet.{flag}
use Rattle.nll_problem.specs.Graph.{element_count}
use Rattle.nll_problem.specs.Problem.{Problem}

-- the set of a region
abbrev pub set_of : List (List Bool) → ℕ → List Bool
set_of values r = slice_index_or values r []

-- whether the value of the region r has e
abbrev pub holds : List (List Bool) → ℕ → ℕ → Bool
holds values r e = flag (set_of values r) e

-- the value of the region r has e
abbrev pub IsHeld : List (List Bool) → ℕ → ℕ → Type 0
IsHeld values r e = holds values r e ≡ true

-- the values with e in the set of r
abbrev pub with_element : List (List Bool) → ℕ → ℕ → List (List Bool)
with_element values r e = slice_set values r (slice_set (set_of values r) e true)

-- the values of the problem's regions that hold nothing
abbrev pub empty_values : Problem → List (List Bool)
empty_values q = replicate q.regions (replicate (element_count q.graph) false)

-- the values are of the problem's numbers: a set for each region, with a flag for each element
pub record IsShaped (q : Problem) (values : List (List Bool)) : Type 0 where
  pub regions : length values ≡ q.regions
  pub elements : (r : ℕ) → r < q.regions → length (set_of values r) ≡ element_count q.graph
