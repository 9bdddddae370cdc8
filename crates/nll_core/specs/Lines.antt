-- The lines of a graph: maximal chains of points p, p + 1, .. in which each has the next as a
-- successor, and the steps that leave them. Source: project's choice. Only private contracts cite
-- this file.
use Rattle.std.specs.Prelude.{◌≡◌, ◌≢◌, ◌⊎◌, ◌↔◌, ℕ, ◌+◌, ◌≤◌, ◌<◌, List, length}
use Rattle.std.specs.Prelude.{slice_index, slice_index_or, AllPairs, Contains}
use Rattle.nll_problem.specs.Graph.{Graph, IsNext, IsReturn, IsSound}
use Rattle.nll_core.specs.declared.frontiers.landings.Landing.{Landing}

-- e is the last point of the line of x
pub record IsLineEnd (g : Graph) (x e : ℕ) : Type 0 where
  pub above : x ≤ e
  pub point : e < g.points
  pub line : (y : ℕ) → x ≤ y → y < e → IsNext g y (y + 1)
  pub last : IsNext g e (e + 1) → ⊥

-- from x a jump leads to t: to a successor that isn't the next point of its line or, from a return
-- point, to the ends, which the number of points denotes
abbrev pub IsJump : Graph → ℕ → ℕ → Type 0
IsJump g x t = (IsNext g x t × (t ≢ x + 1)) ⊎ (IsReturn g x × (t ≡ g.points))

-- the list has the last point of the line of each point
pub record AreLineEnds (g : Graph) (ends : List ℕ) : Type 0 where
  pub sized : length ends ≡ g.points
  pub each : (x : ℕ) → x < g.points → IsLineEnd g x (slice_index ends x)

-- The list has the last point of the line of each of its points; the line of the points after them
-- reaches at least the point `count`.
pub record AreEndsTo (g : Graph) (count : ℕ) (ends : List ℕ) : Type 0 where
  pub within : length ends ≤ count
  pub each : (x : ℕ) → x < length ends → IsLineEnd g x (slice_index ends x)
  pub going : (x : ℕ) → length ends ≤ x → x < count → IsNext g x (x + 1)

-- t is in the list at a place from `from` on and before `to`
abbrev pub StandsIn : List ℕ → ℕ → ℕ → ℕ → Type 0
StandsIn list from to t = (k : ℕ) × (from ≤ k) × (k < to) × (slice_index list k ≡ t)

-- The list has the jumps of the points before `count`, those of each point from its start up to the
-- start of the next point.
pub record AreJumps (g : Graph) (count : ℕ) (starts targets : List ℕ) : Type 0 where
  pub sized : length starts ≡ count + 1
  pub ordered : (i j : ℕ) → i ≤ j → j ≤ count → slice_index starts i ≤ slice_index starts j
  pub last : slice_index starts count ≡ length targets
  pub each : (x t : ℕ) → x < count
      → IsJump g x t ↔ StandsIn targets (slice_index starts x) (slice_index starts (x + 1)) t

-- Targets of this kind were appended to the list.
pub record Pushes (kind : ℕ → Type 0) (old new : List ℕ) : Type 0 where
  pub longer : length old ≤ length new
  pub front : (k : ℕ) → k < length old → slice_index new k ≡ slice_index old k
  pub each : (t : ℕ) → kind t ↔ StandsIn new (length old) (length new) t

-- The landings before this index lead below the number, and those from it on don't.
pub record IsLandingStart (list : List Landing) (number place : ℕ) : Type 0 where
  pub bound : place ≤ length list
  pub below : (k : ℕ) (d : Landing) → k < place → (slice_index_or list k d).to < number
  pub others : (k : ℕ) (d : Landing) → place ≤ k → k < length list
      → number ≤ (slice_index_or list k d).to

-- The list has exactly the jumps of the graph, ascending by target; and the numbers are the indices
-- at which those of each target start, for each target up to one past the number of points.
pub record AreLandings (g : Graph) (list : List Landing) (starts : List ℕ) : Type 0 where
  pub each : (l : Landing) → Contains list l ↔ IsJump g l.from l.to
  pub sized : length starts ≡ g.points + 2
  pub start : (t : ℕ) → t < g.points + 2 → IsLandingStart list t (slice_index starts t)

-- the list has exactly the return points of the graph, ascending
abbrev pub AreReturns : Graph → List ℕ → Type 0
AreReturns g points =
    AllPairs (λ x y. x < y) points × ((x : ℕ) → Contains points x ↔ IsReturn g x)

-- These are the points, the ends of lines and the jumps of the graph.
pub record AreLinesOf (g : Graph) (points universals : ℕ) (ends starts targets : List ℕ)
    : Type 0 where
  pub sound : IsSound g
  pub points_are : points ≡ g.points
  pub universals_are : universals ≡ g.universals
  pub line_ends : AreLineEnds g ends
  pub jumps : AreJumps g g.points starts targets
