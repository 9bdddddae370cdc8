use Rattle.std.proofs.Common.{◌≡◌, ◌≢◌, ◌<◌, ◌↔◌, [], List, length, get_or, sym, ap, ◌∙◌, subst, arith}
use Rattle.std.specs.Prelude.{IsTrue}
use Rattle.std.proofs.lemmas.List.{get_or_default}
use Rattle.nll_owner.proofs.OwnerLemmas.{get_at}
use Rattle.nll_model.specs.State.{Lane, WorldState, IsAt, lane_to, empty_lane}
use Rattle.nll_model.proofs.StateLemmas.{lanes_is}
use Rattle.nll_model.proofs.PossibleLemmas.{no_items, may_take}
use Rattle.nll_model.proofs.state.State.can_take.Goals as goal
use Rattle.nll_model.proofs.state.State.can_take.Goals.{After-index}

two : (c : After-index) → (c.args.i ≢ c.args.j) × (c.args.i < length c.args.self.now.seats)
    × (c.args.j < length c.args.self.now.seats)
two c = c.are_two.ensures.0 c.if-not-are_two.false

at : (c : After-index) → IsAt c.args.self.now c.args.i c.index.result.now
at c = get_at c.args.self.now.seats c.args.i c.index.result.now (two c).1
    (sym (c.index.ensures ∙ ap (λ (w : WorldState). get_or w.seats c.args.i c.index.result.now) c.self.view_is))

pub bounds-lanes-i : goal.bounds-lanes-i
bounds-lanes-i c =
    let t = c.are_two.ensures.0 c.if-not-are_two.false in
    let at_j : IsAt c.args.self.now c.args.j c.index-2.result.now =
    get_at c.args.self.now.seats c.args.j c.index-2.result.now t.2
    (sym (c.index-2.ensures ∙ ap (λ (w : WorldState). get_or w.seats c.args.j c.index-2.result.now) c.self.view_is)) in
    let l = lanes_is c.requires.0 c.requires.1 c.args.self.now c.requires.2 c.args.j c.index-2.result.now at_j in
    omega (arith, l, t.1, ap (λ (lanes : List Lane). length lanes) c.lanes.ensures)

pub returns : goal.returns
returns c =
    let d = (goal.at.returns c).After-index in
    let t = c.are_two.ensures.0 c.if-not-are_two.false in
    let at_j : IsAt c.args.self.now c.args.j c.index-2.result.now =
    get_at c.args.self.now.seats c.args.j c.index-2.result.now t.2
    (sym (c.index-2.ensures ∙ ap (λ (w : WorldState). get_or w.seats c.args.j c.index-2.result.now) c.self.view_is)) in
    let l = lanes_is c.requires.0 c.requires.1 c.args.self.now c.requires.2 c.args.j c.index-2.result.now at_j in
    let s = c.index-2.result.now in let lane = c.index-lanes-i.result in
    let same : lane_to s c.args.i ≡ lane =
    get_or_default s.lanes c.args.i empty_lane lane (omega (arith, l, t.1))
    ∙ (ap (λ (lanes : List Lane). get_or lanes c.args.i lane) (sym c.lanes.ensures) ∙ sym c.index-lanes-i.is) in
    let empty : IsTrue c.is_empty.result ↔ (lane.box ≡ []) =
    ((λ h. no_items lane.box (grind arith)), (λ h. grind arith)) in
    may_take c.args.self.now c.args.i c.args.j c.index.result.now s t.0 (at d)
    (c.is_free.ensures.0 c.if-not-is_free.false) at_j c.is_empty.result
    (subst (λ (l : Lane). IsTrue c.is_empty.result ↔ (l.box ≡ [])) (sym same) empty)
