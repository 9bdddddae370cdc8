use Rattle.std.proofs.Common.{◌≡◌, ◌≤◌, length}
use Rattle.nll_problem.specs.Graph.{element_count}
use Rattle.nll_core.specs.Worklist.{Turns}
use Rattle.nll_core.proofs.solver.sweep_backwards.Given as goal

abbrev pub invariant-loop-place : goal.invariant-loop-place
invariant-loop-place l = record {
  turns : Turns l.problem l.fn.values l.values l.marks.items l.changed;
  walk : length l.walk.reached ≡ element_count l.problem.graph;
  within : l.place ≤ length l.order;
}

abbrev pub decreases-loop-place : goal.decreases-loop-place
decreases-loop-place l = l.place
