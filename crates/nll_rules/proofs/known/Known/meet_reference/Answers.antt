use Rattle.std.proofs.Common.{◌≡◌, ap, ◌∙◌}
use Rattle.nll_rules.specs.Knowing.{KnownTypes, known_row}
use Rattle.nll_rules.proofs.FlowLemmas.{met_reference}
use Rattle.nll_rules.proofs.KnowingLemmas.{row_at_stays}
use Rattle.nll_rules.proofs.MeetingLemmas as meetings
use Rattle.nll_rules.proofs.known.Known.meet_reference.Goals as goal

pub returns-in_ok-ask_own-in-Some-other-clause-asked : goal.returns-in_ok-ask_own-in-Some-other-clause-asked
returns-in_ok-ask_own-in-Some-other-clause-asked c m o p target other =
    let k = c.args.self.now in
    let here = c.in-Some-other.other in
    let row : c.row.result.now ≡ known_row k here =
    rw c.self.invariant.4 at c.row.ensures ∙ ap (λ (v : KnownTypes). known_row v here) c.self.view_is
    ∙ row_at_stays k c.ask_meeting.new.self here c.ask_meeting.ensures.learns
    (rw c.in-Some-other.is at c.requires.other).whole in
    met_reference k c.args.region c.in-Some.target here _ _
    (λ m t u h i same. meetings.met_reference k c.args.region m t u c.in-Some.target here _ _ _ h i same
    c.in_ok-ask_meeting-in-Some-other.ensures.asked
    (λ before last e. c.in_ok-ask_own-in-Some-other.ensures before last (row ∙ e)))
    m o p (rw c.in-Some.is at target) (rw c.in-Some-other.is at other)
