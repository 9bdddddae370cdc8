use Rattle.std.proofs.Common.{◌∷◌}
use Rattle.nll_answer.specs.Report.{element_text}
use Rattle.nll_answer.proofs.ReportLemmas.{runs_more}
use Rattle.nll_answer.proofs.values_report.push_runs.Goals as goal

pub loop-run-preserved : goal.loop-run-preserved
loop-run-preserved c =
    runs_more (λ e. 32 ∷ element_text c.args.labels.now c.args.points e) c.args.runs.now c.loop-run.run-index _ _ _
    c.loop-run-test.true c.loop-run.invariant c.in_ok-push_run.ensures
