use Rattle.std.proofs.Common.{Contains, take}
use Rattle.nll_sets.specs.Runs.{IsInRuns}
use Rattle.nll_live.specs.BaseRuns.{GainsRuns}
use Rattle.nll_live.proofs.base_runs.push_all.Given as goal

abbrev pub invariant-loop-region : goal.invariant-loop-region
invariant-loop-region l =
    GainsRuns (λ r p. Contains (take l.region-index l.regions) r
    × IsInRuns l.runs p) l.fn.base_runs.items l.base_runs.items
