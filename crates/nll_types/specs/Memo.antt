-- Fields of struct uses whose shapes were made before.
-- Source: project's choice.
use Rattle.std.specs.Prelude.{◌≡◌, ◌<◌, ℕ, List, length, Contains, Some}
use Rattle.nll_types.specs.Structs.{Struct}
use Rattle.nll_types.specs.Shapes.{behind_shape}
use Rattle.nll_types.specs.Table.{shape_in}
use Rattle.nll_types.specs.declared.node.Node.{Node}
use Rattle.nll_types.specs.declared.type_table.FieldUse.{FieldUse}
use Rattle.nll_types.specs.declared.place.Projection.TheVariants.{Field}

-- Each number that is remembered of a part or field is that of its shape.
pub record AreRemembered (structs : List Struct) (ns : List Node) (fields : List (FieldUse × ℕ))
    : Type 0 where
  pub each : (use' : FieldUse) (v : ℕ) → Contains fields (use', v)
      → (use'.shape < length ns) × (v < length ns)
      × (Some (shape_in ns v) ≡ behind_shape structs (Field use'.place) (shape_in ns use'.shape))
