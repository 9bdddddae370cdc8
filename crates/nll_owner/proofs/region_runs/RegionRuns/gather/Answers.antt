use Rattle.std.proofs.lemmas.Result.{on_ok_weaker}
use Rattle.nll_owner.specs.RegionRuns.{TellTheSame}
use Rattle.nll_owner.proofs.RegionRunLemmas.{told_permuted}
use Rattle.nll_owner.proofs.region_runs.RegionRuns.gather.Goals as goal
use Rattle.nll_owner.proofs.region_runs.RegionRuns.gather.Goals.{After-deref}

told : (c : After-deref) → TellTheSame c.args.growths.now c.deref.result.now
told c =
    rw c.deref.ensures.value (told_permuted _ _ _ c.sort_unstable_by_key.ensures.permutation c.in_ok-list_runs.ensures)

pub merge-requires-clause-proper : goal.merge-requires-clause-proper
merge-requires-clause-proper c = (told (goal.at.merge-requires-clause-proper c).After-deref).proper

pub returns : goal.returns
returns c =
    let d = (goal.at.returns c).After-deref in
    on_ok_weaker c.merge.result (λ tells. tells c.args.growths.now (told d)) c.merge.ensures
