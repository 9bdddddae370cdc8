use Rattle.std.proofs.Common.{◌≡◌, length}
use Rattle.nll_problem.specs.Graph.{element_count}
use Rattle.nll_core.proofs.WorklistLemmas.{Sweeping}
use Rattle.nll_core.proofs.solver.sweep_all.Given as goal

abbrev pub invariant-loop-region : goal.invariant-loop-region
invariant-loop-region l = record {
  sweeping : Sweeping l.problem l.fn.values l.values l.marks.items l.changed l.region;
  walk : length l.walk.reached ≡ element_count l.problem.graph;
}
