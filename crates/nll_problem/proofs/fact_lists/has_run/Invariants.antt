use Rattle.std.proofs.Common.{◌≤◌, ◌<◌, ◌-◌, ℕ}
use Rattle.nll_problem.specs.BaseRuns.{IsInBaseRuns}
use Rattle.nll_problem.proofs.fact_lists.has_run.Given as goal

abbrev pub invariant-loop-point : goal.invariant-loop-point
invariant-loop-point l = record {
  behind : l.fn.run.first ≤ l.point;
  covered : (p : ℕ) → l.fn.run.first ≤ p → p < l.point → IsInBaseRuns l.runs l.fn.run.region p;
}

abbrev pub decreases-loop-point : goal.decreases-loop-point
decreases-loop-point l = l.fn.run.end - l.point
