use Rattle.std.proofs.Common.{◌≡◌, ◌≤◌, ◌+◌, ◌*◌, length, take, drop, vec_len, vec_capacity}
use Rattle.nll_types.specs.Shapes.{shape_nodes, shape_nodes_of_all}
use Rattle.nll_types.specs.Table.{all_at, shape_in, shapes_in}
use Rattle.nll_types.proofs.FillLemmas.{AreFilled}
use Rattle.nll_types.proofs.trees.+trees.Given as goal

abbrev pub decreases-tree_of : goal.decreases-tree_of
decreases-tree_of l = 2 * shape_nodes (shape_in l.shapes.now l.shape)

abbrev pub decreases-trees_of : goal.decreases-trees_of
decreases-trees_of l = 2 * shape_nodes_of_all (all_at (shapes_in l.shapes.now) l.parts.now) + 1

abbrev pub invariant-trees_of-loop-part : goal.invariant-trees_of-loop-part
invariant-trees_of-loop-part l =
    AreFilled (shapes_in l.shapes) (take l.part-index l.parts) (drop l.fn.at l.regions) l.made.items
    (drop l.at l.regions)
    × (vec_len l.made ≡ l.part-index) × (length l.parts ≤ vec_capacity l.made)
