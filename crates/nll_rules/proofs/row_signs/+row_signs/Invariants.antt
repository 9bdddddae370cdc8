use Rattle.std.proofs.Common.{◌≡◌, ◌++◌, ◌+◌, ◌*◌, take}
use Rattle.nll_types.specs.Declarations.{structs_of}
use Rattle.nll_types.specs.Shapes.{shape_nodes, shape_nodes_of_all}
use Rattle.nll_types.specs.Table.{all_at, shape_in, shapes_in}
use Rattle.nll_rules.specs.Signs.{all_signs, part_sign}
use Rattle.nll_rules.proofs.row_signs.+row_signs.Given as goal

abbrev pub decreases-push_signs : goal.decreases-push_signs
decreases-push_signs l = 2 * shape_nodes (shape_in l.shapes.now l.shape)

abbrev pub decreases-push_parts : goal.decreases-push_parts
decreases-push_parts l = 2 * shape_nodes_of_all (all_at (shapes_in l.shapes.now) l.parts.now) + 1

abbrev pub invariant-push_parts-loop-place : goal.invariant-push_parts-loop-place
invariant-push_parts-loop-place l = l.signs.items ≡ l.fn.signs.items
    ++ all_signs (structs_of l.structs) (part_sign l.kinds) (all_at (shapes_in l.shapes) (take l.place l.parts))
