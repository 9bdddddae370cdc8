use Rattle.std.proofs.Common.{◌≡◌, length}
use Rattle.nll_problem.specs.Graph.{element_count}
use Rattle.nll_core.specs.Growing.{missing_pairs}
use Rattle.nll_core.specs.Worklist.{IsOnTheWay}
use Rattle.nll_core.proofs.solver.sweep.Given as goal

abbrev pub invariant-loop : goal.invariant-loop
invariant-loop l = record {
  way : IsOnTheWay l.problem l.fn.values l.values l.marks.items;
  walk : length l.walk.reached ≡ element_count l.problem.graph;
}

abbrev pub decreases-loop : goal.decreases-loop
decreases-loop l = missing_pairs l.values

abbrev pub invariant-loop-2 : goal.invariant-loop-2
invariant-loop-2 l = record {
  way : IsOnTheWay l.problem l.fn.values l.values l.marks.items;
  walk : length l.walk.reached ≡ element_count l.problem.graph;
}

abbrev pub decreases-loop-2 : goal.decreases-loop-2
decreases-loop-2 l = missing_pairs l.values
