use Rattle.nll_problem.specs.Graph.{IsNext}
use Rattle.nll_live.specs.Chains.{HaveStarts}
use Rattle.nll_live.proofs.chains.chain_starts.Given as goal

abbrev pub invariant-loop-point : goal.invariant-loop-point
invariant-loop-point l = HaveStarts (IsNext l.previous) l.point l.starts.items
