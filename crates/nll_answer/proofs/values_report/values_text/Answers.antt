use Rattle.std.proofs.lemmas.Result.{IfOk-weaker}
use Rattle.nll_answer.proofs.ReportLemmas.{lines_report}
use Rattle.nll_answer.proofs.values_report.values_text.Goals as goal

pub returns : goal.returns
returns c = IfOk-weaker c.region_lines.result _ _
    (λ report. lines_report c.args.problem.now c.args.labels.now c.args.values.now _ _ c.points.ensures.value
    c.regions.ensures.value report.items)
    c.region_lines.ensures
