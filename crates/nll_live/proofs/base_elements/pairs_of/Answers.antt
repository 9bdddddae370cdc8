use Rattle.std.proofs.Common.{◌∙◌, ap, arith}
use Rattle.std.proofs.lemmas.List.{take_all}
use Rattle.std.proofs.lemmas.List.Filters.{dedup_is}
use Rattle.nll_problem.specs.BaseRuns.{facts_of_runs}
use Rattle.nll_problem.specs.Building.{same_pair}
use Rattle.nll_problem.proofs.BaseLemmas.{finished_ascend}
use Rattle.nll_live.proofs.PairLemmas.{facts_more, pairs_same}
use Rattle.nll_live.proofs.base_elements.pairs_of.Goals as goal

pub loop-base_run-preserved : goal.loop-base_run-preserved
loop-base_run-preserved c = c.in_ok-push_pairs.ensures
    ∙ facts_more c.args.base_runs.now c.loop-base_run.base_run-index c.base_run-item.result
    c.loop-base_run.pairs.items c.loop-base_run-test.true c.base_run-item.is c.loop-base_run.invariant

pub returns-clause-each : goal.returns-clause-each
returns-clause-each c =
    rw (dedup_is same_pair _ _ c.dedup.ensures.filtered)
    (pairs_same c.args.base_runs.now c.loop-base_run.pairs.items c.sort_unstable.new.self.items
    (c.loop-base_run.invariant
    ∙ ap facts_of_runs (take_all c.loop-base_run.base_run-index c.args.base_runs.now (omega arith)))
    c.sort_unstable.ensures.permutation)

pub returns-clause-ascending : goal.returns-clause-ascending
returns-clause-ascending c =
    rw (dedup_is same_pair _ _ c.dedup.ensures.filtered) (finished_ascend _ c.sort_unstable.ensures.sorted)
