use Rattle.nll_rules.proofs.FlowLemmas.{of_place}
use Rattle.nll_rules.proofs.KnowingLemmas.{at_hand_known, known_later, learns_then, row_in_stays}
use Rattle.nll_rules.proofs.PairLemmas.{adds_none}
use Rattle.nll_rules.proofs.StatementLemmas.{constant_asks}
use Rattle.nll_rules.specs.Flows.{place_type}
use Rattle.nll_rules.proofs.known.Known.ask_from.Goals as goal

pub meet-requires-clause-one : goal.meet-requires-clause-one
meet-requires-clause-one c =
    at_hand_known c.walk.new.self (place_type c.args.self.now c.in-Copy.place) c.in_ok-one-in-Copy.one
    c.in_ok-one-in-Copy.ensures.row

pub meet-requires-clause-other : goal.meet-requires-clause-other
meet-requires-clause-other c =
    known_later c.args.self.now c.walk.new.self c.args.other c.walk.ensures.learns c.requires

pub returns-in-Const-clause-asked : goal.returns-in-Const-clause-asked
returns-in-Const-clause-asked c p other agrees =
    rw c.in-Const.is (adds_none _ _ (constant_asks c.args.self.now.structs p))

pub returns-in_ok-meet-in-Copy-clause-asked : goal.returns-in_ok-meet-in-Copy-clause-asked
returns-in_ok-meet-in-Copy-clause-asked c p other agrees =
    let k = c.args.self.now in
    let l = c.walk.ensures.learns in
    let is = of_place k c.args.operand c.in-Copy.place c.in-Copy.is in
    let later = row_in_stays k c.walk.new.self p c.args.other l other in
    rw is ((rw l.structs at
    (c.in_ok-meet-in-Copy.ensures.asked (place_type k c.in-Copy.place) p c.in_ok-one-in-Copy.ensures.row later))
    (rw is at agrees))

pub returns-in_ok-meet-in-Copy-clause-learns : goal.returns-in_ok-meet-in-Copy-clause-learns
returns-in_ok-meet-in-Copy-clause-learns c = learns_then _ _ _ c.walk.ensures.learns c.meet.ensures.learns

pub returns-in_err-meet-in-Copy-clause-learns : goal.returns-in_err-meet-in-Copy-clause-learns
returns-in_err-meet-in-Copy-clause-learns c = learns_then _ _ _ c.walk.ensures.learns c.meet.ensures.learns
