-- How a solver keeps track of the regions that it still has to visit: one flag for each region.
-- Source: project's choice. Only private contracts cite this file.
use Rattle.std.specs.Prelude.{◌≡◌, ◌≢◌, ◌⊎◌, ℕ, ◌≤◌, ◌<◌, Bool, true, false, List, length, Contains}
use Rattle.nll_sets.specs.ElementSet.{flag}
use Rattle.nll_problem.specs.At.{at_rank}
use Rattle.nll_problem.specs.Problem.{Problem}
use Rattle.nll_problem.specs.declared.constraint.Constraint.{Constraint}
use Rattle.nll_core.specs.Growing.{Tells, StaysBelow, MeetsEach, IsMet}
use Rattle.nll_core.specs.Values.{set_of, IsHeld, IsShaped}
use Rattle.nll_core.specs.Walking.{constraint_at}

-- each constraint is met, or its `sub` is marked
abbrev pub IsTracked : Problem → List (List Bool) → List Bool → Type 0
IsTracked q values marks =
    (c : Constraint) → Contains q.constraints c → (flag marks c.sub ≡ true) ⊎ IsMet q values c

-- the region is no longer marked, and each other one is as it was
abbrev pub IsCleared : List Bool → List Bool → ℕ → Type 0
IsCleared old new region =
    (flag new region ≡ false) × ((r : ℕ) → r ≢ region → flag new r ≡ flag old r)

-- the regions of the list are regions of the problem
abbrev pub AreRegions : Problem → List ℕ → Type 0
AreRegions q order = (r : ℕ) → Contains order r → r < q.regions

-- The values of a problem grew towards its solutions; `changed` says whether they did.
pub record Advances (q : Problem) (old new : List (List Bool)) (changed : Bool) : Type 0 where
  pub shaped : IsShaped q new
  pub kept : (r e : ℕ) → IsHeld old r e → IsHeld new r e
  pub below : StaysBelow q old new
  pub tells : Tells changed old new

-- What a visit to a region does: each region that gained something is marked afterwards, and the
-- visited region gained nothing.
pub record Visits (q : Problem) (sub : ℕ) (old new : List (List Bool)) (before after : List Bool)
    (changed : Bool) : Type 0 where
  pub advances : Advances q old new changed
  pub width : length after ≡ length before
  pub own : set_of new sub ≡ set_of old sub
  pub marks : (r : ℕ) → (set_of new r ≡ set_of old r) ⊎ (flag after r ≡ true)
  pub stays : (r : ℕ) → flag before r ≡ true → flag after r ≡ true
  pub quiet : changed ≡ false → after ≡ before

-- What one or several turns of regions do; afterwards each constraint is met or its `sub` marked.
pub record Turns (q : Problem) (old new : List (List Bool)) (after : List Bool) (changed : Bool)
    : Type 0 where
  pub advances : Advances q old new changed
  pub width : length after ≡ q.regions
  pub tracked : IsTracked q new after

-- The values grew towards the solutions of a problem, until they meet each constraint.
pub record Completes (q : Problem) (old new : List (List Bool)) : Type 0 where
  pub shaped : IsShaped q new
  pub kept : (r e : ℕ) → IsHeld old r e → IsHeld new r e
  pub below : StaysBelow q old new
  pub closed : MeetsEach q new

-- Values on the way to the least ones: they grew towards the solutions, and each constraint is met
-- or its `sub` marked.
pub record IsOnTheWay (q : Problem) (old new : List (List Bool)) (marks : List Bool) : Type 0 where
  pub shaped : IsShaped q new
  pub kept : (r e : ℕ) → IsHeld old r e → IsHeld new r e
  pub below : StaysBelow q old new
  pub width : length marks ≡ q.regions
  pub tracked : IsTracked q new marks

-- the constraints of the list are constraints of the problem, all of one pair of regions
abbrev pub AreOfPair : Problem → ℕ → ℕ → List Constraint → Type 0
AreOfPair q sub sup pair =
    (c : Constraint) → Contains pair c → Contains q.constraints c × (c.sub ≡ sub) × (c.sup ≡ sup)

-- the constraints at the indices from one up to another fill the same region
abbrev pub AreOfOneSup : List Constraint → ℕ → ℕ → Type 0
AreOfOneSup constraints from to =
    (k : ℕ) → from ≤ k → k < to
    → (constraint_at constraints k).sup ≡ (constraint_at constraints from).sup

-- the regions of the constraints never descend, nor do the places of those of one region
pub record SupsAscend (constraints : List Constraint) : Type 0 where
  pub sups : (j k : ℕ) → j ≤ k → k < length constraints
      → (constraint_at constraints j).sup ≤ (constraint_at constraints k).sup
  pub points : (j k : ℕ) → j ≤ k → k < length constraints
      → (constraint_at constraints j).sup ≡ (constraint_at constraints k).sup
      → at_rank (constraint_at constraints j).at ≤ at_rank (constraint_at constraints k).at
