-- How the problem of a body comes about, one kind of facts after another. Source: project's choice.
-- Only private contracts cite this file.
use Rattle.std.specs.Prelude.{◌≡◌, ◌⊎◌, ◌↔◌, ◌<◌, ℕ, List, length, Contains}
use Rattle.nll_problem.specs.BaseRuns.{IsInBaseRuns}
use Rattle.nll_problem.specs.Building.{bare_problem}
use Rattle.nll_problem.specs.Graph.{Graph}
use Rattle.nll_problem.specs.GraphBuilding.{bare_graph}
use Rattle.nll_problem.specs.Limits.{most_constraints}
use Rattle.nll_problem.specs.Problem.{Problem, IsOnce, IsUniversal}
use Rattle.nll_problem.specs.declared.base_run.BaseRun.{BaseRun}
use Rattle.nll_problem.specs.declared.at.At.{At}
use Rattle.nll_problem.specs.declared.at.At.TheVariants.{All, Point}
use Rattle.nll_problem.specs.declared.constraint.Constraint.{Constraint}
use Rattle.nll_problem.specs.declared.error.BuildError.{BuildError}
use Rattle.nll_problem.specs.declared.error.BuildError.TheVariants.{Limit, Memory}
use Rattle.nll_problem.specs.declared.error.Kind.TheVariants.{Constraints}
use Rattle.nll_types.specs.Types.{TypeTree}
use Rattle.nll_body.specs.Statements.{Statement}
use Rattle.nll_body.specs.Bodies.{BodyText, IsGraphOf, StandsAt}
use Rattle.nll_rules.specs.Asking.{AsksInAll}
use Rattle.nll_rules.specs.BodyProblem.{IsAskedAt, IsProblemOf, HasTooMany}
use Rattle.nll_rules.specs.declared.error.RuleError.{RuleError}
use Rattle.nll_rules.specs.declared.error.RuleError.TheVariants as told

-- the problem is of the body's points and universal regions alone
abbrev pub IsBareOf : BodyText → Problem → Type 0
IsBareOf body q = q ≡ bare_problem (bare_graph (length body.points) body.universals)

-- The problem has the body's points, regions and facts: on a graph of the body it is the body's.
pub record HasFactsOf (body : BodyText) (q : Problem) : Type 0 where
  pub points : q.graph.points ≡ length body.points
  pub universals : q.graph.universals ≡ body.universals
  pub each : (g : Graph) → IsGraphOf body g → IsProblemOf body (record q { graph = g })

-- ---- facts that are all in range

-- The outlives facts of the list were added to those of the problem.
pub record AddsOutlives (facts : List (ℕ × ℕ)) (old new : Problem) : Type 0 where
  pub others : new ≡ record old { outlives = new.outlives }
  pub each : (x : ℕ × ℕ) → Contains new.outlives x ↔ (Contains old.outlives x ⊎ Contains facts x)

-- The base facts of the runs were added to those of the problem.
pub record AddsBases (runs : List BaseRun) (old new : Problem) : Type 0 where
  pub others : new ≡ record old { bases = new.bases }
  pub each : (r p : ℕ)
      → Contains new.bases (r, p) ↔ (Contains old.bases (r, p) ⊎ IsInBaseRuns runs r p)

-- all facts of the list are of universal regions of the problem
abbrev pub AreOfUniversals : List (ℕ × ℕ) → Problem → Type 0
AreOfUniversals facts q =
    (a b : ℕ) → Contains facts (a, b) → IsUniversal q a × IsUniversal q b

-- all facts of the runs are of a region and a point of the problem
abbrev pub AreOfPoints : List BaseRun → Problem → Type 0
AreOfPoints runs q =
    (r p : ℕ) → IsInBaseRuns runs r p → (r < q.regions) × (p < q.graph.points)

-- ---- constraints

-- The constraints of this kind were added to those of the problem.
pub record AddsConstraints (kind : Constraint → Type 0) (old new : Problem) : Type 0 where
  pub others : new ≡ record old { constraints = new.constraints }
  pub each : (c : Constraint) → Contains new.constraints c ↔ (Contains old.constraints c ⊎ kind c)

-- The constraints of the kind don't all fit: some of them and of those that are there, none listed
-- twice, are more than the limit.
abbrev pub Overflows : (Constraint → Type 0) → Problem → Type 0
Overflows kind q = (some : List Constraint) × IsOnce some × (most_constraints < length some)
    × ((c : Constraint) → Contains some c → Contains q.constraints c ⊎ kind c)

-- the error says that there is no room for all constraints of the kind, or that an allocation
-- failed
abbrev pub IsRoomRefused : (Constraint → Type 0) → Problem → BuildError → Type 0
IsRoomRefused kind q e = (e ≡ Memory) ⊎ ((e ≡ Limit Constraints) × Overflows kind q)

-- the error says that the body has too many constraints, or that an allocation failed
abbrev pub IsRefusedFor : BodyText → BuildError → Type 0
IsRefusedFor body e = (e ≡ Memory) ⊎ ((e ≡ Limit Constraints) × HasTooMany body)

-- it is one of the points
abbrev pub IsOnePoint : List ℕ → At → Type 0
IsOnePoint points place = (p : ℕ) × Contains points p × (place ≡ Point p)

-- a constraint of this pair of regions at one of the points
abbrev pub IsOfPair : List ℕ → ℕ × ℕ → Constraint → Type 0
IsOfPair points pair c = ((c.sup, c.sub) ≡ pair) × IsOnePoint points c.at

-- a constraint of one of the pairs of regions at one of the points
abbrev pub IsOfPairs : List ℕ → List (ℕ × ℕ) → Constraint → Type 0
IsOfPairs points pairs c = Contains pairs (c.sup, c.sub) × IsOnePoint points c.at

-- a constraint of one of the pairs of regions at all points
abbrev pub IsOfPairsEverywhere : List (ℕ × ℕ) → Constraint → Type 0
IsOfPairsEverywhere pairs c = (c.at ≡ All) × Contains pairs (c.sup, c.sub)

-- the constraint of a pair of regions at all points
abbrev pub everywhere : ℕ × ℕ → Constraint
everywhere pair = record { sub = pair.1; sup = pair.0; at = All }

-- the statement at one of the first n points asks the constraint
abbrev pub IsAskedBefore : BodyText → ℕ → Constraint → Type 0
IsAskedBefore body n c = (p : ℕ) × (p < n) × IsAskedAt body p c

-- the pair is of regions of the problem
abbrev pub IsPairOfRegions : ℕ × ℕ → Problem → Type 0
IsPairOfRegions pair q = (pair.0 < q.regions) × (pair.1 < q.regions)

-- ---- errors

-- the error of a body for that of a builder to which all numbers in range were given
abbrev pub told_of : BuildError → RuleError
told_of (Limit kind) = told.Limit kind
told_of _ = told.Memory

-- ---- what statements ask

-- the statement at p asks the pair
abbrev pub IsPairAskedAt : BodyText → ℕ → ℕ × ℕ → Type 0
IsPairAskedAt body p x = (i : Statement ℕ TypeTree) × StandsAt body p i
    × AsksInAll body.structs body.variables i x

-- the pairs are exactly those that the statement at p asks
abbrev pub AreAskedAt : BodyText → ℕ → List (ℕ × ℕ) → Type 0
AreAskedAt body p pairs = (x : ℕ × ℕ) → Contains pairs x ↔ IsPairAskedAt body p x
