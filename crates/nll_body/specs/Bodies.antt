-- A body: what a MIR text means, its points and its graph.
-- Source: RFC 2094 speaks of MIR; the numbering of points is project's choice.
use Rattle.std.specs.Prelude.{◌≡◌, ◌⊎◌, ◌↔◌, ℕ, ◌+◌, false, List, length, Contains, Some, slice_get}
use Rattle.nll_problem.specs.Graph.{Graph, IsNext, IsReturn}
use Rattle.nll_format.specs.Labels.{Labels, blocks}
use Rattle.nll_types.specs.Types.{TypeTree}
use Rattle.nll_types.specs.Structs.{Struct}
use Rattle.nll_body.specs.Statements.{Statement, is_terminator, return}
use Rattle.nll_body.specs.Effects.{targets}

-- A body: its regions' names, 'static first and the universal ones before the others, the pairs of
-- universal regions of which the first is known to outlive the second, the pairs of regions of
-- which the first must hold, at all points, what the second holds, its structs, the types of its
-- variables, the first point of each block, and the statement or terminator at each point.
pub record BodyText : Type 0 where
  pub names : List (List ℕ)
  pub universals : ℕ
  pub outlives : List (ℕ × ℕ)
  pub asserts : List (ℕ × ℕ)
  pub structs : List Struct
  pub variables : List TypeTree
  pub starts : List ℕ
  pub points : List (Statement ℕ TypeTree)

-- the variable has this type
abbrev pub HasType : BodyText → ℕ → TypeTree → Type 0
HasType body x t = slice_get body.variables x ≡ Some t

-- this statement or terminator is at p
abbrev pub StandsAt : BodyText → ℕ → Statement ℕ TypeTree → Type 0
StandsAt body p i = slice_get body.points p ≡ Some i

-- q is a successor of p: the next point after a statement, or the first point of a block to which a
-- terminator goes on
abbrev pub IsFollowedBy : BodyText → ℕ → ℕ → Type 0
IsFollowedBy body p q =
    (i : Statement ℕ TypeTree) × StandsAt body p i
    × (((is_terminator i ≡ false) × (q ≡ p + 1))
    ⊎ ((b : ℕ) × Contains (targets i) b × (slice_get body.starts b ≡ Some q)))

-- The graph is the body's.
pub record IsGraphOf (body : BodyText) (graph : Graph) : Type 0 where
  pub points : graph.points ≡ length body.points
  pub universals : graph.universals ≡ body.universals
  pub next : (p q : ℕ) → IsNext graph p q ↔ IsFollowedBy body p q
  pub returns : (p : ℕ) → IsReturn graph p ↔ StandsAt body p return

-- the body's labels: the names of its regions, and points by their blocks
abbrev pub labels_of : BodyText → Labels
labels_of body = record { names = body.names; points = blocks body.starts }
