use Rattle.std.proofs.Common.{◌<◌, slice_index_or, ap, subst, sym}
use Rattle.nll_problem.specs.Graph.{Graph}
use Rattle.nll_body.proofs.EdgeLemmas.{item_in, next_led, next_room, next_step}
use Rattle.nll_body.proofs.edges.add_targets.Goals as goal

pub bounds-starts-block : goal.bounds-starts-block
bounds-starts-block c = c.requires.blocks _ (item_in c.args.blocks.now c.loop-block.block-index c.loop-block-test.true)

pub add_edge-requires-clause-to : goal.add_edge-requires-clause-to
add_edge-requires-clause-to c =
    let start = c.requires.blocks _ (item_in c.args.blocks.now c.loop-block.block-index c.loop-block-test.true) in
    subst (λ n. slice_index_or c.args.starts.now (slice_index_or c.args.blocks.now c.loop-block.block-index 0) 0 < n)
    (sym (ap (λ (g : Graph). g.points) c.loop-block.invariant.others))
    (c.requires.starts _ (next_led c.args.starts.now c.args.blocks.now c.loop-block.block-index c.loop-block-test.true
    start))

pub add_edge-requires-clause-room : goal.add_edge-requires-clause-room
add_edge-requires-clause-room c =
    let start = c.requires.blocks _ (item_in c.args.blocks.now c.loop-block.block-index c.loop-block-test.true) in
    next_room c.args.starts.now c.args.point c.args.blocks.now c.loop-block.block-index c.args.graph.now
    c.loop-block.graph c.loop-block-test.true start c.loop-block.invariant c.requires.room

pub loop-block-preserved : goal.loop-block-preserved
loop-block-preserved c =
    let start = c.requires.blocks _ (item_in c.args.blocks.now c.loop-block.block-index c.loop-block-test.true) in
    next_step c.args.starts.now c.args.point c.args.blocks.now c.loop-block.block-index c.args.graph.now
    c.loop-block.graph c.add_edge.new.graph c.loop-block-test.true start c.loop-block.invariant
    c.in_ok-add_edge.ensures.ok c.in_ok-add_edge.ensures.others
