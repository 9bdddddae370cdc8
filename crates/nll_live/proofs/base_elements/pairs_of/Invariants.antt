use Rattle.std.proofs.Common.{◌≡◌, take}
use Rattle.nll_problem.specs.BaseRuns.{facts_of_runs}
use Rattle.nll_live.proofs.base_elements.pairs_of.Given as goal

abbrev pub invariant-loop-base_run : goal.invariant-loop-base_run
invariant-loop-base_run l = l.pairs.items ≡ facts_of_runs (take l.base_run-index l.base_runs)
