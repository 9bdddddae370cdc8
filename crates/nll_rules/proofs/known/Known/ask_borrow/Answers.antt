use Rattle.std.proofs.lemmas.Result.{on_ok_weaker}
use Rattle.nll_body.specs.Flat.{path_in}
use Rattle.nll_rules.specs.Flows.{place_type}
use Rattle.nll_rules.proofs.AgreeLemmas.{borrow_agrees}
use Rattle.nll_rules.proofs.KnowingLemmas.{at_hand_known, known_later, learns_then, row_in_stays}
use Rattle.nll_rules.proofs.PairLemmas.{adds_same, adds_swapped}
use Rattle.nll_rules.proofs.StatementLemmas.{asks_borrow, outlives_rests}
use Rattle.nll_rules.proofs.known.Known.ask_borrow.Goals as goal

pub meet_reference-requires-clause-target : goal.meet_reference-requires-clause-target
meet_reference-requires-clause-target c =
    known_later c.walk.new.self c.walk-2.new.self c.in_ok-target.target c.walk-2.ensures.learns
    (at_hand_known c.walk.new.self (place_type c.args.self.now c.args.borrowed) c.in_ok-target.target
    c.in_ok-target.ensures.row)

pub meet_reference-requires-clause-other : goal.meet_reference-requires-clause-other
meet_reference-requires-clause-other c =
    at_hand_known c.walk-2.new.self (place_type c.walk.new.self c.args.place) c.in_ok-other.other
    c.in_ok-other.ensures.row

pub returns-clause-asked : goal.returns-clause-asked
returns-clause-asked c =
    let k = c.args.self.now in
    let p = path_in k.lists c.args.place in
    let q = path_in k.lists c.args.borrowed in
    let r = c.args.region in
    let one = c.walk.ensures.learns in
    let two = c.walk-2.ensures.learns in
    let target = row_in_stays c.walk.new.self c.walk-2.new.self (place_type k c.args.borrowed) c.in_ok-target.target
    two c.in_ok-target.ensures.row in
    let other = rw (one.structs, one.variables, one.lists) at c.in_ok-other.ensures.row in
    let rests = outlives_rests k.structs k.variables q _ r _ _ c.in_ok-target.ensures.rests
    (rw c.as_slice.ensures.value at c.in_ok-ask_outlives.ensures) in
    on_ok_weaker c.meet_reference.result (λ h m agrees.
    let met = (rw (two.structs, one.structs) at
    (h m (place_type k c.args.borrowed) (place_type k c.args.place) target other))
    (borrow_agrees k.structs k.variables p r m q agrees) in
    adds_same _ _ _ _ (λ x. asks_borrow k.structs k.variables p r m q x) (adds_swapped _ _ _ _ _ rests met))
    c.meet_reference.ensures.asked

pub returns-in_err-other-clause-learns : goal.returns-in_err-other-clause-learns
returns-in_err-other-clause-learns c = learns_then _ _ _ c.walk.ensures.learns c.walk-2.ensures.learns

pub returns-clause-learns : goal.returns-clause-learns
returns-clause-learns c =
    learns_then _ _ _ (learns_then _ _ _ c.walk.ensures.learns c.walk-2.ensures.learns) c.meet_reference.ensures.learns
