use Rattle.std.proofs.Common.{◌≤◌, ◌<◌, ℕ}
use Rattle.nll_problem.specs.BaseRuns.{IsInBaseRun, IsInBaseRuns}
use Rattle.nll_problem.specs.Merging.{run_at}
use Rattle.nll_problem.proofs.fact_lists.reach.Given as goal

abbrev pub invariant-loop-run : goal.invariant-loop-run
invariant-loop-run l = record {
  behind : l.point ≤ l.end;
  covered : (p : ℕ) → l.point ≤ p → p < l.end → IsInBaseRuns l.runs l.region p;
  begun : (k : ℕ) → k < l.run-index → IsInBaseRun (run_at l.runs k) l.region l.point → l.point < l.end;
}
