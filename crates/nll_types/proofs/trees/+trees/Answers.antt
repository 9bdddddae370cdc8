use Rattle.std.proofs.Common.{◌≡◌, ◌+◌, ◌∙◌, suc, ap, arith}
use Rattle.nll_types.specs.Shapes.{shape_nodes, shape_nodes_of_all}
use Rattle.nll_types.specs.Table.{all_at, at, shape_in, shape_over, shapes_in}
use Rattle.nll_types.proofs.FillLemmas.{filled_more, part_nodes}
use Rattle.nll_types.proofs.trees.+trees.Goals as goal

pub tree_of-trees_of-requires-in-Function : goal.tree_of-trees_of-requires-in-Function
tree_of-trees_of-requires-in-Function t c =
    let known = shapes_in c.args.shapes.now in
    let f = c.in-Function in
    let whole : shape_nodes (shape_in c.args.shapes.now c.args.shape)
    ≡ shape_nodes_of_all (all_at known f.inputs.items) + shape_nodes (at known f.output) + 1 =
    ap shape_nodes (c.node.ensures.at ∙ ap (shape_over known) f.is) in
    let over = rw f.is at c.node.ensures.over in
    let d = c.decreases in
    rw c.as_slice-in-Function.ensures.value (omega arith, λ k l. omega (arith, over (suc k) (omega arith), c.requires))

pub trees_of-tree_of-requires : goal.trees_of-tree_of-requires
trees_of-tree_of-requires t c =
    let k = c.loop-part.part-index in
    let less = part_nodes (shapes_in c.args.shapes.now) c.args.parts.now k c.loop-part-test.true in
    let d = c.decreases in
    (omega arith, c.requires k c.loop-part-test.true)

pub trees_of-loop-part-preserved : goal.trees_of-loop-part-preserved
trees_of-loop-part-preserved t c =
    let pushed = c.push_reserved.ensures in (
      rw pushed.items (filled_more _ c.args.parts.now c.loop-part.part-index 0 _ c.loop-part.made.items _ _ _
          c.loop-part-test.true c.loop-part.invariant.0 c.in_ok-tree_of.ensures.tree c.in_ok-tree_of.ensures.rest),
      omega arith,
      omega arith,
    )
