use Rattle.std.proofs.lemmas.Result.{IfOk-weaker}
use Rattle.nll_answer.proofs.ReportLemmas.{lines_report, report_carries}
use Rattle.nll_answer.proofs.answers.values_of.Goals as goal

pub returns : goal.returns
returns c = IfOk-weaker c.region_lines-report.result _ _
    (λ report printed. report_carries c.args.problem c.args.labels.now _ _ c.in_ok-values.ensures.least report.items
    (lines_report c.args.problem c.args.labels.now c.in_ok-values.values _ _ c.points-points.ensures.value
    c.regions-regions.ensures.value report.items printed))
    c.region_lines-report.ensures
