use Rattle.std.proofs.Common.{◌≡◌, ◌≢◌, ℕ, ◌<◌, false}
use Rattle.nll_problem.specs.Problem.{end_of}
use Rattle.nll_core.specs.Values.{holds}
use Rattle.nll_core.proofs.fault_check.holds_foreign_end.Given as goal

abbrev pub invariant-loop-other : goal.invariant-loop-other
invariant-loop-other l = (other : ℕ) → other < l.other → other ≢ l.region
    → holds l.values l.region (end_of l.problem other) ≡ false
