-- What a walk through the lines of a graph, inside the value of a region, has reached, and what it
-- adds. Source: project's choice. Only private contracts cite this file.
use Rattle.std.specs.Prelude.{◌≡◌, ◌⊎◌, ◌↔◌, ℕ, ◌+◌, ◌-◌, ◌≤◌, ◌<◌, Bool, true, false}
use Rattle.std.specs.Prelude.{List, length, Contains, slice_index_or}
use Rattle.nll_sets.specs.ElementSet.{flag}
use Rattle.nll_sets.specs.Runs.{first_of, last_of, IsInRuns, IsInRunsFrom, AreApartFrom, IsWithin}
use Rattle.nll_sets.specs.declared.run.Run.{Run}
use Rattle.nll_problem.specs.At.{at_rank}
use Rattle.nll_problem.specs.Graph.{Graph, IsNext}
use Rattle.nll_problem.specs.Solution.{IsAskedIn}
use Rattle.nll_problem.specs.Walks.{Reaches}
use Rattle.nll_problem.specs.declared.at.At.{At}
use Rattle.nll_problem.specs.declared.at.At.TheVariants.{All, Point}
use Rattle.nll_problem.specs.declared.constraint.Constraint.{Constraint}
use Rattle.nll_core.specs.Lines.{IsJump}
use Rattle.nll_core.specs.Search.{missing, IsIn}

-- ---- stretches

-- each step inside `sub` along a line leads from the set into it
abbrev pub IsLineClosed : Graph → List Bool → List Bool → Type 0
IsLineClosed g sub reached =
    (x : ℕ) → IsIn reached x → IsNext g x (x + 1) → IsIn sub (x + 1) → IsIn reached (x + 1)

-- The run goes from the point along its line inside `sub`, up to where the line or `sub` ends, or
-- where what is already reached begins.
pub record IsStretch (g : Graph) (sub reached : List Bool) (point : ℕ) (run : Run) : Type 0 where
  pub first : run.first ≡ point
  pub proper : point ≤ run.last
  pub points : run.last < g.points
  pub inside : (x : ℕ) → point ≤ x → x ≤ run.last → IsIn sub x
  pub line : (x : ℕ) → point ≤ x → x < run.last → IsNext g x (x + 1)
  pub new : (x : ℕ) → point ≤ x → x ≤ run.last → flag reached x ≡ false
  pub closing :
      IsNext g run.last (run.last + 1) → IsIn sub (run.last + 1) → IsIn reached (run.last + 1)

-- the limit that means no limit: each point is below it
abbrev pub no_limit : ℕ
no_limit = 4294967295

-- From the point on, the set has no number below the limit, and it has the limit if that is a
-- point.
pub record IsFreeTo (reached : List Bool) (point limit : ℕ) : Type 0 where
  pub above : point < limit
  pub new : (x : ℕ) → point ≤ x → x < limit → flag reached x ≡ false
  pub closing : IsIn reached limit ⊎ (limit ≡ no_limit)

-- the runs of the list are of points
abbrev pub AreRunsOfPoints : Graph → List Run → Type 0
AreRunsOfPoints g runs =
    (k : ℕ) → k < length runs → (first_of runs k ≤ last_of runs k) × (last_of runs k < g.points)

-- the set has each number of the run
abbrev pub AreIn : List Bool → Run → Type 0
AreIn flags run = (x : ℕ) → IsWithin run x → IsIn flags x

-- Elements of this kind were added to the set, and their runs appended to the list, each element
-- once.
pub record GrowsByRuns (g : Graph) (sub : List Bool) (kind : ℕ → Type 0)
    (old new : List Bool) (before after : List Run) : Type 0 where
  pub width : length new ≡ length old
  pub kept : (x : ℕ) → IsIn old x → IsIn new x
  pub cause : (x : ℕ) → IsIn new x → IsIn old x ⊎ kind x
  pub closed : (x : ℕ) → IsIn new x → IsNext g x (x + 1) → IsIn sub (x + 1)
      → IsIn new (x + 1) ⊎ IsIn old x
  pub longer : length before ≤ length after
  pub front : (k : ℕ) → k < length before
      → (first_of after k ≡ first_of before k) × (last_of after k ≡ last_of before k)
  pub listed : (x : ℕ) → IsInRunsFrom (length before) after x
      → IsIn new x × (flag old x ≡ false)
  pub pending : (x : ℕ) → IsIn new x → IsIn old x ⊎ IsInRunsFrom (length before) after x
  pub apart : AreApartFrom (length before) after
  pub fit : AreRunsOfPoints g before → AreRunsOfPoints g after
  pub count : missing new + length after ≤ missing old + length before

-- ---- jumps

-- a jump from a point of the run leads to a point from which a walk inside `sub` leads to x
abbrev pub IsJumpedTo : Graph → List Bool → Run → ℕ → Type 0
IsJumpedTo g sub run x =
    (y : ℕ) × (t : ℕ) × IsWithin run y × IsJump g y t × (t < g.points) × Reaches g (IsIn sub) t x

-- the set has the target of each jump from x that is a point of `sub`
abbrev pub IsFollowed : Graph → List Bool → List Bool → ℕ → Type 0
IsFollowed g sub reached x = (t : ℕ) → IsJump g x t → t < g.points → IsIn sub t → IsIn reached t

-- a walk inside `sub` leads to x from an element of the set
abbrev pub IsLedTo : Graph → List Bool → List Bool → ℕ → Type 0
IsLedTo g sub start x = (y : ℕ) × IsIn start y × Reaches g (IsIn sub) y x

-- The set gained what walks inside `sub` reach from it, points only, and the list their runs. Each
-- run of the list was followed; `ends` says whether one of them has a return point.
pub record IsSpread (g : Graph) (sub start new : List Bool) (listed all : List Run) (ends : Bool)
    : Type 0 where
  pub grows : GrowsByRuns g sub (IsLedTo g sub start) start new listed all
  pub ends_from : ends ≡ true → (x : ℕ) × IsIn new x × IsJump g x g.points
  pub followed :
      (x : ℕ) → IsInRuns all x
      → IsFollowed g sub new x × (IsJump g x g.points → ends ≡ true)

-- the set gained the elements of `sub` from a number on
pub record FillsFrom (from : ℕ) (sub old new : List Bool) : Type 0 where
  pub width : length new ≡ length old
  pub kept : (x : ℕ) → IsIn old x → IsIn new x
  pub cause : (x : ℕ) → IsIn new x → IsIn old x ⊎ ((from ≤ x) × IsIn sub x)
  pub filled : (x : ℕ) → from ≤ x → IsIn sub x → IsIn new x

-- ---- the constraints of a pair of regions

-- what is read past the end of a list of constraints
abbrev pub no_constraint : Constraint
no_constraint = record { sub = 0; sup = 0; at = All }

-- the constraint at a place of the list
abbrev pub constraint_at : List Constraint → ℕ → Constraint
constraint_at pair k = slice_index_or pair k no_constraint

-- the places where the constraints hold never descend: those that hold at all points come first,
-- and the points of the others never descend
abbrev pub PointsAscend : List Constraint → Type 0
PointsAscend pair =
    (j k : ℕ) → j ≤ k → k < length pair
    → at_rank (constraint_at pair j).at ≤ at_rank (constraint_at pair k).at

-- a constraint of the list asks for x inside `sub`
abbrev pub IsAskedOf : Graph → List Bool → List Constraint → ℕ → Type 0
IsAskedOf g sub pair x = (c : Constraint) × Contains pair c × IsAskedIn g (IsIn sub) c.at x

-- the set has what the constraints ask for inside `sub`
abbrev pub AreAskedOf : Graph → List Bool → List Constraint → List Bool → Type 0
AreAskedOf g sub pair reached = (x : ℕ) → IsIn reached x ↔ IsAskedOf g sub pair x

-- ---- those of a pair that all hold at points

-- the point of a constraint, or 0 where it holds at all points
abbrev pub point_of : Constraint → ℕ
point_of c = at_rank c.at - 1

-- it is a point of the graph, and not all points
abbrev pub IsPointOf : Graph → At → Type 0
IsPointOf g All = ⊥
IsPointOf g (Point p) = p < g.points

-- the constraints hold at points of the graph
abbrev pub AreAtPoints : Graph → List Constraint → Type 0
AreAtPoints g pair = (c : Constraint) → Contains pair c → IsPointOf g c.at

-- none of the constraints holds at all points
abbrev pub NoneEverywhere : List Constraint → Type 0
NoneEverywhere pair = (c : Constraint) → Contains pair c → c.at ≡ All → ⊥

-- the points of the constraints at the places from one up to another aren't in `sub`
abbrev pub NoneInside : List Bool → List Constraint → ℕ → ℕ → Type 0
NoneInside sub pair from to =
    (k : ℕ) → from ≤ k → k < to → flag sub (point_of (constraint_at pair k)) ≡ false

-- a walk inside `sub` leads to x from the point of a constraint of the list
abbrev pub IsLedFrom : Graph → List Bool → List Constraint → ℕ → Type 0
IsLedFrom g sub pair x = (c : Constraint) × Contains pair c × Reaches g (IsIn sub) (point_of c) x

-- the set has what walks inside `sub` reach from the points of the constraints
abbrev pub AreLedFrom : Graph → List Bool → List Constraint → List Bool → Type 0
AreLedFrom g sub pair reached = (x : ℕ) → IsIn reached x ↔ IsLedFrom g sub pair x
