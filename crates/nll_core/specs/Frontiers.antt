-- Frontiers: reachable sets that are kept while elements, or runs of them, are added to the set in
-- which walks may go.
-- Source: RFC 2094, "Solving constraints" (the search from a constraint's point that stops where it
-- leaves the region); that it is resumed when the region grows, and that a constraint may hold at
-- all points, is project's choice. The code looks at one new element or run at a time; this
-- speaks of whole walks.
use Rattle.std.specs.Prelude.{◌≡◌, ◌≢◌, ◌⊎◌, ◌↔◌, ℕ, ◌<◌, ◌≤◌, Bool, true, false, List, []}
use Rattle.std.specs.Prelude.{Contains, AllPairs, ◌∷◌, ◌++◌, length, map}
use Rattle.nll_sets.specs.ElementSet.{flag}
use Rattle.nll_sets.specs.Runs.{first_of, last_of, IsInRunsFrom, AreApartFrom, IsWithin}
use Rattle.nll_sets.specs.declared.run.Run.{Run}
use Rattle.nll_problem.specs.At.{IsAmong}
use Rattle.nll_problem.specs.Graph.{Graph, element_count, IsNext, IsReturn, IsStep}
use Rattle.nll_problem.specs.Solution.{IsAskedIn}
use Rattle.nll_problem.specs.Walks.{Reaches}
use Rattle.nll_problem.specs.declared.at.At.{At}
use Rattle.nll_problem.specs.declared.at.At.TheVariants.{All, Point}
use Rattle.nll_core.specs.Search.{IsIn, LeadsTo}
use Rattle.nll_core.specs.Walking.{GrowsByRuns}

-- A frontier: where its constraints hold, what they asked for so far, and whether one of its calls
-- was refused memory.
pub record Frontier : Type 0 where
  pub starts : List At
  pub reached : List Bool
  pub refused : Bool

-- x is asked for inside the set from one of these: from all points, or from a point that leads to x
-- by some walk of the graph inside the set
abbrev pub IsAskedFrom : Graph → (ℕ → Type 0) → List At → ℕ → Type 0
IsAskedFrom g inside starts x = (place : At) × Contains starts place × IsAskedIn g inside place x

-- the frontier has exactly what is asked for inside the set from where its constraints hold
abbrev pub IsFrontierIn : Graph → (ℕ → Type 0) → Frontier → Type 0
IsFrontierIn g inside f = (x : ℕ) → IsIn f.reached x ↔ IsAskedFrom g inside f.starts x

-- x is an element of the set besides those of the run
abbrev pub IsBeside : List Bool → Run → ℕ → Type 0
IsBeside set run x = IsIn set x × (IsWithin run x → ⊥)

-- Runs were appended to the list: exactly the elements that are in the new set and not in the old
-- one, each once.
pub record ListsNew (old new : List Bool) (before after : List Run) : Type 0 where
  pub longer : length before ≤ length after
  pub front : (k : ℕ) → k < length before
      → (first_of after k ≡ first_of before k) × (last_of after k ≡ last_of before k)
  pub proper : (k : ℕ) → length before ≤ k → k < length after → first_of after k ≤ last_of after k
  pub listed : (x : ℕ) → IsInRunsFrom (length before) after x
      ↔ (IsIn new x × (flag old x ≡ false))
  pub apart : AreApartFrom (length before) after

-- ---- elements come into the set one by one

-- x is an element of the set other than e
abbrev pub IsWithout : List Bool → ℕ → ℕ → Type 0
IsWithout set e x = IsIn set x × (x ≢ e)

-- The list keeps what it held; appended are exactly the elements that are in the new set and not in
-- the old one, each once.
pub record AppendsNew (old new : List Bool) (before after : List ℕ) : Type 0 where
  pub rest : List ℕ
  pub appended : after ≡ before ++ rest
  pub listed : (x : ℕ) → Contains rest x ↔ (IsIn new x × (flag old x ≡ false))
  pub once : AllPairs (λ x y. x ≢ y) rest

-- ---- runs of elements come, while others of the set are due later

-- the frontier has only what is asked for inside the set
abbrev pub HasOnlyAsked : Graph → (ℕ → Type 0) → Frontier → Type 0
HasOnlyAsked g inside f = (x : ℕ) → IsIn f.reached x → IsAskedFrom g inside f.starts x

-- x is an element of the set, and if it is due, it is reached
abbrev pub IsThere : (ℕ → Type 0) → (ℕ → Type 0) → List Bool → ℕ → Type 0
IsThere inside due reached x = inside x × (due x → IsIn reached x)

-- Inside the set without what is due and not reached, the frontier lacks nothing: it has all that
-- is asked for there, and all that walks inside reach from what it has.
pub record LacksOnlyDue (g : Graph) (inside due : ℕ → Type 0) (f : Frontier) : Type 0 where
  pub asked : (x : ℕ) → IsAskedFrom g (IsThere inside due f.reached) f.starts x → IsIn f.reached x
  pub onward : (x y : ℕ) → IsIn f.reached x → Reaches g (IsThere inside due f.reached) x y
      → IsIn f.reached y

-- A frontier is of a graph and has only what is asked for inside a set; a run of elements is in
-- this set.
pub record MayGrowByRun (g : Graph) (set : List Bool) (run : Run) (f : Frontier) : Type 0 where
  pub width : length set ≡ element_count g
  pub proper : run.first ≤ run.last
  pub inside : (x : ℕ) → IsWithin run x → IsIn set x
  pub starts : (place : At) → Contains f.starts place → IsAmong g.points place
  pub fits : f.refused ≡ false → length f.reached ≤ element_count g
  pub sound : f.refused ≡ false → HasOnlyAsked g (IsIn set) f

-- A frontier grew by a run of elements of a set, and listed what is new. If it had exactly what is
-- asked for inside the set without the run, it now has exactly what is asked for inside the set.
-- The same holds with other elements due: if it lacked only these and the run, it now lacks only
-- these. Where a constraint holds at all points, nothing but the run was added.
pub record GrowsByRun (g : Graph) (set : List Bool) (run : Run) (old new : Frontier)
    (found : List Run) : Type 0 where
  pub usable : (old.refused ≡ false) × (new.refused ≡ false)
  pub fits : length new.reached ≤ element_count g
  pub kept : (x : ℕ) → IsIn old.reached x → IsIn new.reached x
  pub sound : HasOnlyAsked g (IsIn set) new
  pub alone : Contains old.starts All → (x : ℕ) → IsIn new.reached x
      → IsIn old.reached x ⊎ IsWithin run x
  pub exact : IsFrontierIn g (IsBeside set run) old → IsFrontierIn g (IsIn set) new
  pub whole : (due : ℕ → Bool)
      → LacksOnlyDue g (IsIn set) (λ x. (due x ≡ true) ⊎ IsWithin run x) old
      → LacksOnlyDue g (IsIn set) (λ x. due x ≡ true) new
  pub listed : ListsNew old.reached new.reached [] found

-- Nothing is reached, and from these places a run adds nothing: all points aren't among them, and
-- no walk begins in the run.
pub record IsIdle (starts : List At) (run : Run) (reached : List Bool) : Type 0 where
  pub none : (x : ℕ) → IsIn reached x → ⊥
  pub nowhere : Contains starts All → ⊥
  pub apart : (p : ℕ) → Contains starts (Point p) → IsWithin run p → ⊥

-- a frontier that has reached nothing yet
abbrev pub first_frontier : List At → Frontier
first_frontier places = record { starts = places; reached = []; refused = false }

-- ---- how it goes on: private contracts alone cite what follows

-- A frontier went on from a run of elements of a set. Where a constraint holds at all points,
-- exactly the run was added. Otherwise walks went on: what is newly reached is followed to its end;
-- from what was reached before, only the steps into the run are followed.
pub record FrontierGoesOn (g : Graph) (set : List Bool) (run : Run) (starts : List At)
    (old new : List Bool)
    : Type 0 where
  pub kept : (x : ℕ) → IsIn old x → IsIn new x
  pub sound : (x : ℕ) → IsIn new x → IsAskedFrom g (IsIn set) starts x
  pub whole : Contains starts All → (x : ℕ) → IsWithin run x → IsIn new x
  pub alone : Contains starts All → (x : ℕ) → IsIn new x → IsIn old x ⊎ IsWithin run x
  pub begun : (p : ℕ) → Contains starts (Point p) → IsWithin run p → IsIn new p
  pub closed : (x y : ℕ) → IsIn new x → IsStep g x y → IsIn set y
      → IsIn new y ⊎ ((IsIn old x ⊎ Contains starts All) × (IsWithin run y → ⊥))

-- the numbers of the list ascend
abbrev pub IsAscending : List ℕ → Type 0
IsAscending xs = AllPairs (λ x y. x < y) xs

-- these points as places
abbrev pub as_places : List ℕ → List At
as_places points = map (λ p. Point p) points

-- a place, and then these points
abbrev pub behind_place : At → List ℕ → List At
behind_place place points = place ∷ as_places points

-- where the place is a point, the points after it ascend with it
abbrev pub Ascend : At → List ℕ → Type 0
Ascend place points = (p : ℕ) → place ≡ Point p → IsAscending (p ∷ points)

-- some walk of the graph inside the set leads to x from a point of the list
abbrev pub ReachesFrom : Graph → (ℕ → Type 0) → List ℕ → ℕ → Type 0
ReachesFrom g inside starts x = (p : ℕ) × Contains starts p × Reaches g inside p x

-- Walks inside a set went on from a run of its elements. What is newly reached is followed to its
-- end; from what was reached before, only the steps into the run are followed.
pub record WalksOn (g : Graph) (set : List Bool) (run : Run) (starts : List ℕ)
    (old new : List Bool) : Type 0 where
  pub kept : (x : ℕ) → IsIn old x → IsIn new x
  pub sound : (x : ℕ) → IsIn new x → ReachesFrom g (IsIn set) starts x
  pub begun : (p : ℕ) → Contains starts p → IsWithin run p → IsIn new p
  pub closed : (x y : ℕ) → IsIn new x → IsStep g x y → IsIn set y
      → IsIn new y ⊎ (IsIn old x × (IsWithin run y → ⊥))

-- Walks inside a set went on from a run, among points only, and what is newly reached was appended
-- to the list. `ended` says whether they newly reached a return point.
pub record ResumesPoints (g : Graph) (set : List Bool) (run : Run) (starts : List ℕ)
    (old new : List Bool) (before after : List Run) (ended : Bool) : Type 0 where
  pub grows : GrowsByRuns g set (ReachesFrom g (IsIn set) starts) old new before after
  pub begun : (p : ℕ) → Contains starts p → IsWithin run p → IsIn new p
  pub closed : (x y : ℕ) → IsIn new x → IsNext g x y → IsIn set y
      → IsIn new y ⊎ (IsIn old x × (IsWithin run y → ⊥))
  pub ends_from : ended ≡ true → (x : ℕ) × IsIn new x × IsReturn g x
  pub ends : (x : ℕ) → IsIn new x → IsReturn g x → (ended ≡ true) ⊎ IsIn old x

-- Walks by steps of the relation went on from an element that was added to a set: the set has what
-- they lead to, and each step from there leads into it.
pub record StepsOn (step : ℕ → ℕ → Type 0) (element : ℕ) (old new : List Bool) : Type 0 where
  pub width : length new ≡ length old
  pub kept : (x : ℕ) → IsIn old x → IsIn new x
  pub begun : IsIn new element
  pub cause : (x : ℕ) → IsIn new x
      → (y : ℕ) × (IsIn old y ⊎ (y ≡ element)) × LeadsTo step y x
  pub closed : (x y : ℕ) → IsIn new x → step x y → IsIn new y
