-- The problem of a body. Source: RFC 2094, "Liveness" and "Drop" (base elements), "Subtyping" and
-- "Reborrow constraints" (constraints), "Layer 4: Named lifetimes" (universal regions). That a
-- statement asks at each successor of its point is project's choice after the RFC's examples, and
-- so are constraints at all points; docs/FORMATS.md says the same in prose. The code goes over
-- points, successors and pairs; this says what the facts are.
use Rattle.std.specs.Prelude.{◌≡◌, ◌⊎◌, ◌↔◌, ◌<◌, ℕ, List, length, Contains}
use Rattle.nll_problem.specs.Limits.{most_constraints}
use Rattle.nll_problem.specs.Problem.{Problem, IsOnce, SameSet}
use Rattle.nll_problem.specs.declared.at.At.{At}
use Rattle.nll_problem.specs.declared.at.At.TheVariants.{All, Point}
use Rattle.nll_problem.specs.declared.constraint.Constraint.{Constraint}
use Rattle.nll_problem.specs.declared.error.Kind.TheVariants.{Constraints}
use Rattle.nll_types.specs.Types.{TypeTree}
use Rattle.nll_body.specs.Statements.{Statement}
use Rattle.nll_body.specs.Bodies.{BodyText, StandsAt, IsFollowedBy, IsGraphOf}
use Rattle.nll_live.specs.Live.{IsBaseOf}
use Rattle.nll_rules.specs.Asking.{AsksInAll}
use Rattle.nll_rules.specs.declared.error.RuleError.{RuleError}
use Rattle.nll_rules.specs.declared.error.RuleError.TheVariants.{Limit, Memory}

-- it is a point that may come after p
abbrev pub IsNextTo : BodyText → ℕ → At → Type 0
IsNextTo body p place = (q : ℕ) × IsFollowedBy body p q × (place ≡ Point q)

-- the statement at p asks the constraint: its pair of regions, at a successor of p
abbrev pub IsAskedAt : BodyText → ℕ → Constraint → Type 0
IsAskedAt body p c = (i : Statement ℕ TypeTree) × StandsAt body p i × IsNextTo body p c.at
    × AsksInAll body.structs body.variables i (c.sup, c.sub)

-- the statement at some point asks the constraint
abbrev pub IsAskedSomewhere : BodyText → Constraint → Type 0
IsAskedSomewhere body c = (p : ℕ) × IsAskedAt body p c

-- the body asserts the constraint: its pair of regions, at all points
abbrev pub IsAsserted : BodyText → Constraint → Type 0
IsAsserted body c = (c.at ≡ All) × Contains body.asserts (c.sup, c.sub)

-- the constraint is one of the body: the statement at some point asks it, or the body asserts it
abbrev pub IsConstraint : BodyText → Constraint → Type 0
IsConstraint body c = IsAskedSomewhere body c ⊎ IsAsserted body c

-- The problem is the body's: it has the body's graph and regions, a base fact exactly where a live
-- variable asks for one, exactly the constraints that are asked or asserted, and the body's
-- outlives facts. (That a universal region holds all points and its own end needs no fact:
-- `IsBase`.)
pub record IsProblemOf (body : BodyText) (q : Problem) : Type 0 where
  pub graph : IsGraphOf body q.graph
  pub regions : q.regions ≡ length body.names
  pub bases : (r p : ℕ) → Contains q.bases (r, p) ↔ IsBaseOf body r p
  pub constraints : (c : Constraint) → Contains q.constraints c ↔ IsConstraint body c
  pub outlives : SameSet q.outlives body.outlives

-- The body has more constraints than the limit: some of them, none listed twice, are more.
abbrev pub HasTooMany : BodyText → Type 0
HasTooMany body = (some : List Constraint) × IsOnce some × (most_constraints < length some)
    × ((c : Constraint) → Contains some c → IsConstraint body c)

-- the error says that the body has too many constraints, or that an allocation failed
abbrev pub IsRuleError : BodyText → RuleError → Type 0
IsRuleError body (Limit kind) = (kind ≡ Constraints) × HasTooMany body
IsRuleError body Memory = Unit {0}
