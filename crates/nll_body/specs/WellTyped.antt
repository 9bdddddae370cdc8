-- Well-typed bodies.
-- Source: the type system of RFC 2094, without its regions; the limits are project's choice.
use Rattle.std.specs.Prelude.{◌≡◌, ◌≤◌, ℕ, true, length, All}
use Rattle.nll_problem.specs.Limits.{most_structs}
use Rattle.nll_types.specs.Types.{TypeTree}
use Rattle.nll_types.specs.Shapes.{is_small}
use Rattle.nll_body.specs.Statements.{Statement}
use Rattle.nll_body.specs.Typing.{types_agree, types_are_small, are_small}
use Rattle.nll_body.specs.Bodies.{BodyText, StandsAt}

-- The body is well typed: at each point each place has a type, the types that must be equal when
-- regions are erased are, and none of the types there has more nodes than a type may have. Nor has
-- that of a variable or of a struct's field; and there are no more structs than there may be.
pub record IsWellTyped (body : BodyText) : Type 0 where
  pub struct_limit : length body.structs ≤ most_structs
  pub fields : All (λ d. are_small d.fields ≡ true) body.structs
  pub variables : All (λ t. is_small t ≡ true) body.variables
  pub agree : (p : ℕ) (i : Statement ℕ TypeTree) → StandsAt body p i
      → types_agree body.structs body.variables i ≡ true
  pub small : (p : ℕ) (i : Statement ℕ TypeTree) → StandsAt body p i
      → types_are_small body.structs body.variables i ≡ true
