use Rattle.std.proofs.lemmas.Result.{on_ok_weaker}
use Rattle.nll_rules.proofs.KnowingLemmas.{known_stays, learns_then}
use Rattle.nll_rules.proofs.MeetingLemmas.{asks_stay, listed}
use Rattle.nll_rules.proofs.PairLemmas.{adds_same}
use Rattle.nll_rules.proofs.known.Known.ask_first.Goals as goal

pub add_pairs-requires-clause-pairs : goal.add_pairs-requires-clause-pairs
add_pairs-requires-clause-pairs c x =
    let k = c.args.self.now in
    let l = c.zip.ensures.learns in
    let stay = asks_stay k c.zip.new.self c.args.meeting x l c.requires.one c.requires.other in
    let is = listed _ _ (rw (c.new-pairs.ensures.items) at c.in_ok-zip.ensures.asked) x in
    (λ h. stay.1 (is.0 h), λ h. is.1 (stay.0 h))

pub returns-clause-asked : goal.returns-clause-asked
returns-clause-asked c = on_ok_weaker c.add_pairs.result
    (λ adds. adds_same _ _ _ _ (λ x. asks_stay c.args.self.now c.zip.new.self c.args.meeting x c.zip.ensures.learns
    c.requires.one c.requires.other) adds)
    c.add_pairs.ensures.asked

pub returns-clause-learns : goal.returns-clause-learns
returns-clause-learns c = learns_then _ _ _ c.zip.ensures.learns c.add_pairs.ensures.learns

pub add_pairs-requires-clause-one : goal.add_pairs-requires-clause-one
add_pairs-requires-clause-one c = known_stays _ _ c.args.meeting.one c.zip.ensures.learns c.requires.one

pub add_pairs-requires-clause-other : goal.add_pairs-requires-clause-other
add_pairs-requires-clause-other c = known_stays _ _ c.args.meeting.other c.zip.ensures.learns c.requires.other
