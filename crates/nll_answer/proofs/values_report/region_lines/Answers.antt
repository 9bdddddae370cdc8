use Rattle.std.proofs.Common.{◌≡◌, ◌++◌, ◌∙◌, sym, ap, arith}
use Rattle.nll_sets.specs.ElementSet.{elements}
use Rattle.nll_core.specs.Values.{set_of}
use Rattle.nll_answer.specs.Report.{value_line, value_lines}
use Rattle.nll_answer.proofs.ReportLemmas.{lines_more}
use Rattle.nll_answer.proofs.values_report.region_lines.Goals as goal

pub loop-number-preserved : goal.loop-number-preserved
loop-number-preserved c =
    c.in_ok-push_line.ensures
    ∙ ap (λ bytes. bytes ++ value_line c.args.labels.now c.args.points c.loop-number.number
    (elements (set_of c.args.values.now c.loop-number.number))) c.loop-number.invariant
    ∙ sym (lines_more (λ r. value_line c.args.labels.now c.args.points r (elements (set_of c.args.values.now r)))
    c.loop-number.number)

pub returns : goal.returns
returns c = c.loop-number.invariant
    ∙ ap (λ count. value_lines c.args.points count c.args.labels.now (λ r. elements (set_of c.args.values.now r))) all
  where
    all : c.loop-number.number ≡ c.args.regions
    all = omega (arith, c.loop-number-test.false, c.loop-number.auto.number-end)
