use Rattle.std.proofs.lemmas.Result.{IfOk-weaker}
use Rattle.nll_answer.proofs.ReportLemmas.{faults_carry}
use Rattle.nll_answer.proofs.answers.found_faults.Goals as goal

pub returns-clause-exact : goal.returns-clause-exact
returns-clause-exact c = IfOk-weaker c.faults-found.result _ _
    (λ found. faults_carry c.args.problem.now _ _ c.requires.least found.items)
    c.faults-found.ensures.exact
