use Rattle.nll_rules.proofs.KeyLemmas.{found_meeting}
use Rattle.nll_rules.proofs.MeetingLemmas.{adds_listed}
use Rattle.nll_rules.proofs.known.Known.ask_meeting.Goals as goal

pub returns-in_ok-extend_from_slice-in-Some-clause-asked : goal.returns-in_ok-extend_from_slice-in-Some-clause-asked
returns-in_ok-extend_from_slice-in-Some-clause-asked c = rw (← c.self.view_is)
    (
    let found = rw c.in-Some.is at (found_meeting c.self.inside.asked.entries c.args.meeting c.get.result
    c.get.ensures.value) in
    adds_listed _ _ _ _ (rw c.as_slice.ensures.value at c.in_ok-extend_from_slice-in-Some.ensures.items)
    (rw c.self.invariant.4 at (c.self.invariant.6.each c.args.meeting c.in-Some.pairs.now found).asks))
