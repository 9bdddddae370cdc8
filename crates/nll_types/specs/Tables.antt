-- The structs and the shapes of a body.
-- Source: project's choice.
use Rattle.std.specs.Prelude.{◌≡◌, ℕ, List, map}
use Rattle.nll_types.specs.Shapes.{shape_of}
use Rattle.nll_types.specs.Table.{Extends, shape_in}
use Rattle.nll_types.specs.Types.{TypeTree}
use Rattle.nll_types.specs.declared.node.Node.{Node}
use Rattle.nll_types.specs.declared.structs.Declaration.{Declaration}

-- The structs that are declared, and the shapes that have numbers.
pub record Tables : Type 0 where
  pub structs : List Declaration
  pub shapes : List Node

-- The table has the structs that it had, and each number of a shape still has that shape.
pub record AddsShapes (old new : Tables) : Type 0 where
  pub structs : new.structs ≡ old.structs
  pub extends : Extends old.shapes new.shapes

-- the numbers are those of the shapes of these types
abbrev pub HaveShapes : List Node → List ℕ → List TypeTree → Type 0
HaveShapes ns numbers types = map (shape_in ns) numbers ≡ map shape_of types
