use Rattle.std.proofs.Common.{◌∷◌, arith}
use Rattle.nll_answer.specs.Report.{element_text}
use Rattle.nll_answer.proofs.ReportLemmas.{run_more}
use Rattle.nll_answer.proofs.values_report.push_run.Goals as goal

pub loop-number-preserved : goal.loop-number-preserved
loop-number-preserved c = (
  omega (arith, c.loop-number.invariant.0),
  run_more (λ e. 32 ∷ element_text c.args.labels.now c.args.points e) c.args.run.first c.loop-number.number _ _ _
      c.loop-number.invariant.0 c.loop-number.invariant.1 c.in_ok-push_element.ensures,
)
