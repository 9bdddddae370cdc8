use Rattle.fixpoint.proofs.RunLemmas.{concludes, are_ranked}
use Rattle.fixpoint.proofs.laws.all_quiet.Goals as goal

pub returns : goal.returns
returns g c = λ a state logs sent got rest owed cleared ending ok counted log_is ends quiet tied sums.
    let rules = g.A.Rules.rules in
    let lawful = g.met.A.Rules.lawful in
    let all = concludes rules lawful a ok state sent got rest owed cleared ending ends tied logs counted log_is quiet
    sums in (
      all.0,
      all.1,
      are_ranked rules lawful a ok state sent got rest owed cleared ending ends tied logs counted log_is quiet sums,
      all.2,
    )
