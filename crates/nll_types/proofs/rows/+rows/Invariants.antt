use Rattle.std.proofs.Common.{◌≡◌, ◌+◌, ◌*◌, take, drop}
use Rattle.nll_types.specs.Shapes.{shape_nodes, shape_nodes_of_all}
use Rattle.nll_types.specs.Table.{all_at, shape_in, shapes_in}
use Rattle.nll_types.specs.Rows.{all_filled}
use Rattle.nll_types.proofs.rows.+rows.Given as goal

abbrev pub decreases-pass_row : goal.decreases-pass_row
decreases-pass_row l = 2 * shape_nodes (shape_in l.shapes.now l.shape)

abbrev pub decreases-pass_rows : goal.decreases-pass_rows
decreases-pass_rows l = 2 * shape_nodes_of_all (all_at (shapes_in l.shapes.now) l.parts.now) + 1

abbrev pub invariant-pass_rows-loop-part : goal.invariant-pass_rows-loop-part
invariant-pass_rows-loop-part l =
    drop l.at l.regions
    ≡ (all_filled (all_at (shapes_in l.shapes) (take l.part-index l.parts)) (drop l.fn.at l.regions)).1
