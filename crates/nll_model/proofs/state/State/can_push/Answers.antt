use Rattle.std.proofs.Common.{◌≡◌, ◌≢◌, ◌<◌, ◌↔◌, [], List, length, get_or, sym, ap, ◌∙◌, subst, arith}
use Rattle.std.specs.Prelude.{IsTrue}
use Rattle.std.proofs.lemmas.List.{get_or_default}
use Rattle.nll_owner.proofs.OwnerLemmas.{get_at}
use Rattle.nll_model.specs.State.{Lane, WorldState, IsAt, lane_to, empty_lane}
use Rattle.nll_model.proofs.StateLemmas.{lanes_is}
use Rattle.nll_model.proofs.PossibleLemmas.{no_items, no_push, may_push}
use Rattle.nll_model.proofs.state.State.can_push.Goals as goal
use Rattle.nll_model.proofs.state.State.can_push.Goals.{After-index}

two : (c : After-index) → (c.args.i ≢ c.args.j) × (c.args.i < length c.args.self.now.seats)
    × (c.args.j < length c.args.self.now.seats)
two c = c.are_two.ensures.0 c.if-not-are_two.false

at : (c : After-index) → IsAt c.args.self.now c.args.i c.index.result.now
at c = get_at c.args.self.now.seats c.args.i c.index.result.now (two c).1
    (sym (c.index.ensures ∙ ap (λ (w : WorldState). get_or w.seats c.args.i c.index.result.now) c.self.view_is))

within : (c : After-index) → c.args.j < length c.index.result.now.lanes
within c =
    (let l = lanes_is c.requires.0 c.requires.1 c.args.self.now c.requires.2 c.args.i c.index.result.now (at c) in
    let t = (two c).2 in omega (arith, l, t))

pub returns-then-not-are_two : goal.returns-then-not-are_two
returns-then-not-are_two c =
    no_push c.requires.0 c.requires.1 c.args.self.now c.requires.2 c.args.i c.args.j c.are_two.result c.are_two.ensures
    c.if-not-are_two.true

pub bounds-lanes-j : goal.bounds-lanes-j
bounds-lanes-j c =
    let d = (goal.at.bounds-lanes-j c).After-index in
    omega (arith, within d, ap (λ (lanes : List Lane). length lanes) c.lanes.ensures)

pub returns : goal.returns
returns c =
    let d = (goal.at.returns c).After-index in
    let s = c.index.result.now in let lane = c.index-lanes-j.result in
    let same : lane_to s c.args.j ≡ lane =
    get_or_default s.lanes c.args.j empty_lane lane (within d)
    ∙ (ap (λ (lanes : List Lane). get_or lanes c.args.j lane) (sym c.lanes.ensures) ∙ sym c.index-lanes-j.is) in
    let empty : IsTrue c.is_empty.result ↔ (lane.out ≡ []) =
    ((λ h. no_items lane.out (grind arith)), (λ h. grind arith)) in
    may_push c.args.self.now c.args.i c.args.j s (two d).0 (at d) (within d) c.is_empty.result
    (subst (λ (l : Lane). IsTrue c.is_empty.result ↔ (l.out ≡ [])) (sym same) empty)
