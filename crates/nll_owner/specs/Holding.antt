-- The sets that an owner gives up at the end. Source: project's choice.
use Rattle.std.specs.Prelude.{◌≡◌, ◌↔◌, ℕ, ◌<◌, Bool, List, Some, slice_get, length}
use Rattle.nll_problem.specs.Graph.{element_count}
use Rattle.nll_problem.specs.Problem.{Problem}
use Rattle.nll_core.specs.Search.{IsIn}
use Rattle.nll_cut.specs.Partition.{Cut, owner_of}
use Rattle.nll_mail.specs.declared.growth.Growth.{Growth}
use Rattle.nll_owner.specs.Logs.{IsTold}

-- The regions that an owner held, and their sets in the same order.
pub record Holding : Type 0 where
  pub regions : List ℕ
  pub sets : List (List Bool)

-- the region r has this set there
abbrev pub HasSet : Holding → ℕ → List Bool → Type 0
HasSet h r set = (s : ℕ) × (slice_get h.regions s ≡ Some r) × (slice_get h.sets s ≡ Some set)

-- Each region of owner i has a set there, with one flag for each element of the graph, and the set
-- has exactly the elements that the log says of the region.
pub record AreValuesOf (q : Problem) (c : Cut) (i : ℕ) (log : List Growth) (h : Holding)
    : Type 0 where
  pub whole : (r : ℕ) → r < q.regions → owner_of c r ≡ i → (set : List Bool) × HasSet h r set
  pub shaped :
      (r : ℕ) (set : List Bool) → owner_of c r ≡ i → HasSet h r set
      → length set ≡ element_count q.graph
  pub told :
      (r e : ℕ) (set : List Bool) → owner_of c r ≡ i → HasSet h r set
      → IsIn set e ↔ IsTold log r e
