use Rattle.std.proofs.Common.{◌≡◌, ◌≤◌, false, length, Contains}
use Rattle.nll_problem.specs.At.{IsAmong}
use Rattle.nll_problem.specs.Graph.{element_count}
use Rattle.nll_problem.specs.declared.at.At.{At}
use Rattle.nll_core.specs.Search.{IsIn}
use Rattle.nll_core.specs.Frontiers.{IsFrontierIn}
use Rattle.nll_tests.proofs.frontiers.write_grown.Given as goal

abbrev pub invariant-loop-run : goal.invariant-loop-run
invariant-loop-run l = record {
  width : length l.seen ≡ element_count l.steps;
  fits : length l.frontier.reached ≤ element_count l.steps;
  whole : l.frontier.refused ≡ false;
  starts : (p : At) → Contains l.frontier.starts p → IsAmong l.steps.points p;
  reached : IsFrontierIn l.steps (IsIn l.seen) l.frontier;
}
