use Rattle.std.proofs.Common.{◌≡◌, ◌<◌, subst, sym}
use Rattle.std.specs.Prelude.{Some, slice_get}
use Rattle.nll_body.specs.Flat.{statement_in, statements_in}
use Rattle.nll_body.proofs.GraphLemmas.{points_step, points_room}
use Rattle.nll_body.proofs.MeantLemmas.{mapped_at}
use Rattle.nll_body.proofs.edges.add_points.Goals as goal
use Rattle.nll_body.proofs.edges.add_points.Goals.{After-at-statement}

at : (c : After-at-statement) → slice_get (statements_in c.args.points.now) c.loop-point.point
    ≡ Some (statement_in c.args.points.now c.at-statement.result.now)
at c =
    mapped_at (statement_in c.args.points.now) c.args.points.now.points c.loop-point.point
    c.at-statement.result.now c.at-statement.ensures

pub add_next-requires-clause-blocks : goal.add_next-requires-clause-blocks
add_next-requires-clause-blocks c = λ b h.
    c.requires.blocks c.loop-point.point b (statement_in c.args.points.now c.at-statement.result.now)
    (at (goal.at.add_next-requires-clause-blocks c).After-at-statement) h

pub add_next-requires-clause-ends : goal.add_next-requires-clause-ends
add_next-requires-clause-ends c = λ q leaves.
    subst (λ n. q < n) (sym c.loop-point.invariant.points)
    (c.requires.ends c.loop-point.point q (statement_in c.args.points.now c.at-statement.result.now)
    (at (goal.at.add_next-requires-clause-ends c).After-at-statement) leaves)

pub add_next-requires-clause-room : goal.add_next-requires-clause-room
add_next-requires-clause-room c =
    points_room c.args.starts.now c.args.graph.now.universals (statements_in c.args.points.now) c.loop-point.point
    (statement_in c.args.points.now c.at-statement.result.now) c.loop-point.graph c.loop-point.invariant
    (at (goal.at.add_next-requires-clause-room c).After-at-statement) c.requires.room

pub loop-point-preserved : goal.loop-point-preserved
loop-point-preserved c =
    points_step c.args.starts.now c.args.graph.now.universals (statements_in c.args.points.now) c.loop-point.point
    (statement_in c.args.points.now c.at-statement.result.now) c.loop-point.graph c.add_next.new.graph
    c.loop-point.invariant (at (goal.at.loop-point-preserved c).After-at-statement) c.in_ok-add_next.ensures.ok
