-- What holds of each body.
-- Source: project's choice.
use Rattle.std.specs.Prelude.{◌<◌, ◌≤◌, ℕ, length, All, Contains}
use Rattle.nll_problem.specs.Limits.{most_points, most_edges, most_universals, most_regions}
use Rattle.nll_problem.specs.Limits.{most_variables}
use Rattle.nll_format.specs.Labels.{AreFirstPoints}
use Rattle.nll_types.specs.Types.{TypeTree}
use Rattle.nll_types.specs.Structs.{AreInOrder, IsWellFormed}
use Rattle.nll_body.specs.Statements.{Statement, types_written}
use Rattle.nll_body.specs.Effects.{targets}
use Rattle.nll_body.specs.Written.{regions_written}
use Rattle.nll_body.specs.Bodies.{BodyText, StandsAt, IsFollowedBy}
use Rattle.nll_body.specs.Edges.{edge_count}
use Rattle.nll_body.specs.WellTyped.{IsWellTyped}

-- The points, the regions and the variables keep to the limits, each edge leads to a point, each
-- target is one of the blocks, the outlives pairs are of universal regions, the asserted pairs are
-- of declared ones, the regions that are written at the points are declared, the types that are
-- written there and those of the variables keep to what is declared, and the body is well typed.
pub record IsSoundBody (body : BodyText) : Type 0 where
  pub some_point : 0 < length body.points
  pub point_limit : length body.points ≤ most_points
  pub edge_limit : edge_count body.points ≤ most_edges
  pub some_universal : 0 < body.universals
  pub universal_limit : body.universals ≤ most_universals
  pub all_universals : body.universals ≤ length body.names
  pub region_limit : length body.names ≤ most_regions
  pub variable_limit : length body.variables ≤ most_variables
  pub known_universals : (a b : ℕ) → Contains body.outlives (a, b)
      → (a < body.universals) × (b < body.universals)
  pub known_asserts : (a b : ℕ) → Contains body.asserts (a, b)
      → (a < length body.names) × (b < length body.names)
  pub first_points : AreFirstPoints body.starts
  pub in_range : (p q : ℕ) → IsFollowedBy body p q → q < length body.points
  pub blocks : (p b : ℕ) (i : Statement ℕ TypeTree) → StandsAt body p i → Contains (targets i) b
      → b < length body.starts
  pub in_order : AreInOrder body.structs
  pub types : All (IsWellFormed body.structs (length body.names) 0) body.variables
  pub written_regions : (p r : ℕ) (i : Statement ℕ TypeTree) → StandsAt body p i
      → Contains (regions_written i) r → r < length body.names
  pub written_types : (p : ℕ) (t : TypeTree) (i : Statement ℕ TypeTree) → StandsAt body p i
      → Contains (types_written i) t → IsWellFormed body.structs (length body.names) 0 t
  pub well_typed : IsWellTyped body
