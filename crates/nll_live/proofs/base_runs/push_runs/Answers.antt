use Rattle.std.proofs.Common.{◌≡◌, refl, subst, arith}
use Rattle.nll_live.specs.BaseRuns.{GainsRuns}
use Rattle.nll_live.proofs.BaseRunLemmas.{IsInFirst, runs_step}
use Rattle.nll_live.proofs.base_runs.push_runs.Goals as goal

pub loop-run-preserved : goal.loop-run-preserved
loop-run-preserved c =
    rw c.in_ok-push.ensures.items (runs_step c.args.region c.args.runs.now c.loop-run.run-index
    c.args.base_runs.now.items c.loop-run.base_runs.items _ refl refl refl c.loop-run.invariant)

pub returns : goal.returns
returns c =
    subst (λ n. GainsRuns (λ r p. (c.args.region ≡ r) × IsInFirst c.args.runs.now n p) c.args.base_runs.now.items
    c.loop-run.base_runs.items) (omega arith) c.loop-run.invariant
