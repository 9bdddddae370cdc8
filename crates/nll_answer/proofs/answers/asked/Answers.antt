use Rattle.std.proofs.Common.{sym}
use Rattle.nll_answer.proofs.ReportLemmas.{faults_named}
use Rattle.nll_answer.proofs.answers.asked.Goals as goal

pub told_faults-requires : goal.told_faults-requires
told_faults-requires c =
    let found = c.in_ok-faults-in-Check in
    faults_named c.args.problem _ found.faults.items (sym c.requires) found.ensures.sound found.ensures.exact
