use Rattle.std.proofs.Common.{Some}
use Rattle.std.proofs.lemmas.Result.{on_ok_weaker}
use Rattle.nll_rules.specs.Flows.{place_type, written_type}
use Rattle.nll_rules.proofs.KnowingLemmas.{at_hand_known, known_later, learns_then, row_in_stays, type_known}
use Rattle.nll_rules.proofs.known.Known.ask_result.Goals as goal

pub meet-requires-clause-one : goal.meet-requires-clause-one
meet-requires-clause-one c =
    known_later c.written.new.self c.walk.new.self (Some c.in_ok-one.one) c.walk.ensures.learns
    (type_known c.written.new.self (written_type c.args.self.now c.args.ty) c.in_ok-one.one c.in_ok-one.ensures.row)

pub meet-requires-clause-other : goal.meet-requires-clause-other
meet-requires-clause-other c =
    at_hand_known c.walk.new.self (place_type c.written.new.self c.args.place) c.in_ok-other.other
    c.in_ok-other.ensures.row

pub returns-clause-asked : goal.returns-clause-asked
returns-clause-asked c =
    let t = Some (written_type c.args.self.now c.args.ty) in
    let l = c.written.ensures.learns in
    let v = c.walk.ensures.learns in
    on_ok_weaker c.meet.result (λ h. rw (v.structs, l.structs, l.variables, l.lists) at
    (h t (place_type c.written.new.self c.args.place)
    (row_in_stays c.written.new.self c.walk.new.self t (Some c.in_ok-one.one) v c.in_ok-one.ensures.row)
    c.in_ok-other.ensures.row)) c.meet.ensures.asked

pub returns-in_err-other-clause-learns : goal.returns-in_err-other-clause-learns
returns-in_err-other-clause-learns c = learns_then _ _ _ c.written.ensures.learns c.walk.ensures.learns

pub returns-clause-learns : goal.returns-clause-learns
returns-clause-learns c =
    learns_then _ _ _ (learns_then _ _ _ c.written.ensures.learns c.walk.ensures.learns) c.meet.ensures.learns
