use Rattle.std.proofs.Common.{◌≡◌, false, length}
use Rattle.nll_problem.specs.Graph.{element_count}
use Rattle.nll_core.specs.Search.{IsIn}
use Rattle.nll_core.specs.Frontiers.{IsFrontierIn}
use Rattle.nll_tests.proofs.element_frontiers.write_grown.Given as goal

abbrev pub invariant-loop-number : goal.invariant-loop-number
invariant-loop-number g l = record {
  width : length (g.S.ElementSet.flags l.seen) ≡ element_count l.graph;
  whole : l.frontier.refused ≡ false;
  reached : IsFrontierIn l.graph (IsIn (g.S.ElementSet.flags l.seen)) l.frontier;
}
