use Rattle.std.proofs.Common.{◌≡◌, ◌+◌, ◌∙◌, suc, ap, arith}
use Rattle.nll_types.specs.Shapes.{shape_nodes, shape_nodes_of_all}
use Rattle.nll_types.specs.Table.{all_at, at, shape_in, shape_over, shapes_in}
use Rattle.nll_types.proofs.FillLemmas.{passed_more, part_nodes}
use Rattle.nll_types.proofs.rows.+rows.Goals as goal

pub pass_row-pass_rows-requires-in-Function : goal.pass_row-pass_rows-requires-in-Function
pass_row-pass_rows-requires-in-Function t c =
    let known = shapes_in c.args.shapes.now in
    let f = c.in-Function in
    let whole : shape_nodes (shape_in c.args.shapes.now c.args.shape)
    ≡ shape_nodes_of_all (all_at known f.inputs.items) + shape_nodes (at known f.output) + 1 =
    ap shape_nodes (c.node.ensures.at ∙ ap (shape_over known) f.is) in
    let over = rw f.is at c.node.ensures.over in
    let d = c.decreases in
    rw c.as_slice-in-Function.ensures.value (omega arith, λ k l. omega (arith, over (suc k) (omega arith), c.requires))

pub pass_rows-pass_row-requires : goal.pass_rows-pass_row-requires
pass_rows-pass_row-requires t c =
    let k = c.loop-part.part-index in
    let less = part_nodes (shapes_in c.args.shapes.now) c.args.parts.now k c.loop-part-test.true in
    let d = c.decreases in
    (omega arith, c.requires k c.loop-part-test.true)

pub pass_rows-loop-part-preserved : goal.pass_rows-loop-part-preserved
pass_rows-loop-part-preserved t c =
    passed_more _ c.args.parts.now c.loop-part.part-index 0 _ _ _ c.loop-part-test.true c.loop-part.invariant
    c.pass_row.ensures
