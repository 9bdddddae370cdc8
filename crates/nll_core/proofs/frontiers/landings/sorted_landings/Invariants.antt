use Rattle.nll_core.proofs.LandingLemmas.{AreLandingsTo, Landed}
use Rattle.nll_core.proofs.frontiers.landings.sorted_landings.Given as goal

abbrev pub invariant-loop-point : goal.invariant-loop-point
invariant-loop-point l = AreLandingsTo l.lines l.point l.list.items

abbrev pub invariant-loop-target : goal.invariant-loop-target
invariant-loop-target l = Landed l.point l.target-items l.initial.list.items l.list.items l.target-index
