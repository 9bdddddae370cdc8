use Rattle.std.proofs.Common.{ℕ, ◌<◌, ◌≤◌}
use Rattle.nll_sets.specs.Runs.{first_of, last_of}
use Rattle.nll_core.specs.Search.{IsIn}
use Rattle.nll_core.proofs.inclusion.is_seen_within.Given as goal

abbrev pub invariant-loop-run : goal.invariant-loop-run
invariant-loop-run l = (k x : ℕ) → k < l.run-index → first_of l.runs k ≤ x → x ≤ last_of l.runs k → IsIn l.outer x
