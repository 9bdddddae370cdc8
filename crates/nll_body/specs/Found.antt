-- The shape that is found of a place or operand.
-- Source: project's choice. Only private contracts cite this file.
use Rattle.std.specs.Prelude.{◌≡◌, ℕ, Bool, List, Option, option_map, IfSome}
use Rattle.nll_types.specs.Types.{TypeTree}
use Rattle.nll_types.specs.Shapes.{shape_of}
use Rattle.nll_types.specs.Table.{shape_in}
use Rattle.nll_types.specs.declared.node.Node.{Node}

-- What is found is the shape of the type, where there is a type, and whether it is small.
pub record IsShapeFound (ns : List Node) (shape_found : Option ℕ) (small_found : Bool)
    (t : Option TypeTree) (is_small : Bool) : Type 0 where
  pub shape : option_map (shape_in ns) shape_found ≡ option_map shape_of t
  pub small : IfSome shape_found (λ _. small_found ≡ is_small)
