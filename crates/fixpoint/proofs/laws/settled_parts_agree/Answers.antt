use Rattle.fixpoint.proofs.LawLemmas.{least_exact}
use Rattle.fixpoint.proofs.laws.settled_parts_agree.Goals as goal

pub returns : goal.returns
returns g c = λ a logs received ok sound settled.
    least_exact g.A.Rules.rules
    g.met.A.Rules.lawful a ok
    logs received sound settled
