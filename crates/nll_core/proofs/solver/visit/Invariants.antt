use Rattle.std.proofs.Common.{◌≡◌, ◌-◌, length}
use Rattle.nll_problem.specs.Graph.{element_count}
use Rattle.nll_core.proofs.WorklistLemmas.{Visiting}
use Rattle.nll_core.proofs.solver.visit.Given as goal

abbrev pub invariant-loop-place : goal.invariant-loop-place
invariant-loop-place l = record {
  visiting : Visiting l.problem l.sub l.constraints l.fn.values l.values l.fn.marks.items l.marks.items l.changed
      l.place;
  walk : length l.walk.reached ≡ element_count l.problem.graph;
}

abbrev pub decreases-loop-place : goal.decreases-loop-place
decreases-loop-place l = length l.constraints - l.place
