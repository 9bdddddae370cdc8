use Rattle.std.proofs.Common.{◌≡◌, ◌<◌, ◌++◌, length, reverse}
use Rattle.nll_types.specs.Shapes.{shape_of}
use Rattle.nll_types.specs.Table.{shape_in}
use Rattle.nll_types.specs.Tables.{AddsShapes}
use Rattle.nll_types.specs.Types.{TypeTree}
use Rattle.nll_mir_text.specs.Resolving.{regions_around, with_references, without_references}
use Rattle.nll_mir_text.proofs.type_resolution.put_around.Given as goal

abbrev pub invariant-loop-mutable : goal.invariant-loop-mutable
invariant-loop-mutable l = record {
  grows : AddsShapes l.fn.types.table l.types.table;
  within : l.shape < length l.types.table.shapes;
  shape : (t : TypeTree) → shape_in l.fn.types.table.shapes l.target ≡ shape_of t
      → (u : TypeTree) × (shape_in l.types.table.shapes l.shape ≡ shape_of u)
      × (with_references u (reverse l.rows.items) ≡ with_references t (reverse l.fn.rows.items));
  regions : l.types.regions.items ++ regions_around (reverse l.rows.items)
      ≡ l.fn.types.regions.items ++ regions_around (reverse l.fn.rows.items);
  rows : without_references (reverse l.rows.items) ≡ without_references (reverse l.fn.rows.items);
}

abbrev pub decreases-loop-mutable : goal.decreases-loop-mutable
decreases-loop-mutable l = length l.rows.items
