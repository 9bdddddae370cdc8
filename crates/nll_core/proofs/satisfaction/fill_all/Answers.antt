use Rattle.std.proofs.Common.{get_or, refl, arith}
use Rattle.nll_sets.specs.Runs.{no_run}
use Rattle.nll_core.proofs.WorklistLemmas.{filling_more}
use Rattle.nll_core.proofs.satisfaction.fill_all.Goals as goal

pub loop-run-preserved : goal.loop-run-preserved
loop-run-preserved c =
    filling_more c.args.region c.args.runs.now _ _ _ _ _ c.loop-run.run-index
    (get_or c.args.runs.now c.loop-run.run-index no_run) refl refl c.loop-run-test.true
    c.loop-run.invariant c.in_ok-new.ensures.gains c.in_ok-new.ensures.covers c.in_ok-new.ensures.tells

pub returns-clause-covers : goal.returns-clause-covers
returns-clause-covers c = λ e i. c.loop-run.invariant.covers i.0 e (omega (arith, i.1, c.loop-run-test.false)) i.2 i.3
