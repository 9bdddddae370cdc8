use Rattle.std.proofs.Common.{◌≡◌}
use Rattle.nll_live.specs.BaseRuns.{GainsRuns}
use Rattle.nll_live.proofs.BaseRunLemmas.{IsInFirst}
use Rattle.nll_live.proofs.base_runs.push_runs.Given as goal

abbrev pub invariant-loop-run : goal.invariant-loop-run
invariant-loop-run l =
    GainsRuns (λ r p. (l.region ≡ r) × IsInFirst l.runs l.run-index p) l.fn.base_runs.items l.base_runs.items
