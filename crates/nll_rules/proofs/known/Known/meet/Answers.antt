use Rattle.nll_rules.proofs.FlowLemmas.{met}
use Rattle.nll_rules.proofs.KnownLemmas.{met_types}
use Rattle.nll_rules.proofs.known.Known.meet.Goals as goal

pub returns-in_ok-ask_meeting-in-Some-other-clause-asked : goal.returns-in_ok-ask_meeting-in-Some-other-clause-asked
returns-in_ok-ask_meeting-in-Some-other-clause-asked c o p one other =
    let k = c.args.self.now in
    met k c.in-Some.one c.in-Some-other.other _ _
    (λ t u h i same. met_types k t u c.in-Some.one c.in-Some-other.other _ _ h i same
    c.in_ok-ask_meeting-in-Some-other.ensures.asked)
    o p (rw c.in-Some.is at one) (rw c.in-Some-other.is at other)
