use Rattle.std.proofs.Common.{ℕ, List, Contains, subst, arith}
use Rattle.std.proofs.lemmas.List.{take_all}
use Rattle.nll_sets.specs.Runs.{IsInRuns}
use Rattle.nll_live.specs.BaseRuns.{GainsRuns}
use Rattle.nll_live.proofs.BaseRunLemmas.{regions_step}
use Rattle.nll_live.proofs.base_runs.push_all.Goals as goal

pub loop-region-preserved : goal.loop-region-preserved
loop-region-preserved c =
    regions_step c.args.regions.now (IsInRuns c.args.runs.now) c.loop-region.region-index c.region-item.result _ _ _
    c.loop-region-test.true c.region-item.is c.loop-region.invariant c.in_ok-push_runs.ensures

pub returns : goal.returns
returns c =
    subst (λ (xs : List ℕ). GainsRuns (λ r p. Contains xs r × IsInRuns c.args.runs.now p) c.args.base_runs.now.items
    c.loop-region.base_runs.items) (take_all c.loop-region.region-index c.args.regions.now (omega arith))
    c.loop-region.invariant
