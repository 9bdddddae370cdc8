use Rattle.nll_core.proofs.ReturnLemmas.{AreReturnsTo}
use Rattle.nll_core.proofs.frontiers.landings.return_points.Given as goal

abbrev pub invariant-loop-point : goal.invariant-loop-point
invariant-loop-point l = AreReturnsTo l.graph l.point l.points.items
