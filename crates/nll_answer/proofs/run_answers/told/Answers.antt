use Rattle.std.proofs.Common.{refl, sym}
use Rattle.nll_answer.proofs.ReportLemmas.{faults_named, report_carries}
use Rattle.nll_answer.proofs.run_answers.told.Goals as goal

pub told_faults-requires : goal.told_faults-requires
told_faults-requires c =
    let found = c.in_ok-found-in-Check in
    faults_named c.args.problem.now _ found.found.items (sym c.requires.named) found.ensures.sound found.ensures.exact

pub returns-in_ok-report-in-Values-clause-ok : goal.returns-in_ok-report-in-Values-clause-ok
returns-in_ok-report-in-Values-clause-ok c = rw c.in-Values.is (
  report_carries c.args.problem.now c.args.labels.now _ _ c.requires.least _ c.in_ok-report-in-Values.ensures,
  refl,
)
