use Rattle.nll_body.specs.Flat.{statements_in}
use Rattle.nll_body.specs.Making.{HasPoints}
use Rattle.nll_body.proofs.edges.add_points.Given as goal

abbrev pub invariant-loop-point : goal.invariant-loop-point
invariant-loop-point l = HasPoints l.starts l.fn.graph.universals (statements_in l.points) l.point l.graph
