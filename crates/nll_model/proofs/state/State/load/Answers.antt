use Rattle.std.proofs.Common.{◌≡◌, ℕ, [], length, get_or, slice_set, sym, ap, ◌∙◌, subst, arith}
use Rattle.nll_owner.specs.Owner.{IsSoundOwner}
use Rattle.nll_model.specs.State.{Seat, WorldState, IsAt, with_seat, lane_to}
use Rattle.nll_model.proofs.StateLemmas.{seat_is, place_in, owners_is, lanes_is, seats_few, none_fresh}
use Rattle.nll_model.specs.Working.{OwnerGoesOn, NoGrowth}
use Rattle.nll_problem.specs.Problem.{Problem}
use Rattle.nll_cut.specs.Partition.{Cut}
use Rattle.nll_owner.proofs.ReceiptLemmas.{on_err_always}
use Rattle.nll_model.specs.Soundness.{IsOrderly}
use Rattle.nll_model.proofs.OrderlyLemmas.{orderly_after}
use Rattle.nll_model.proofs.state.State.load.Goals as goal
use Rattle.nll_model.proofs.state.State.load.Goals.{After-index_mut}

is : (c : After-index_mut) → c.index_mut.result.now ≡ c.requires.possible.0
is c = seat_is c.args.self.now c.args.i c.requires.possible.0 c.index_mut.result.now c.requires.possible.1
    (c.index_mut.ensures.value ∙ ap (λ (w : WorldState). get_or w.seats c.args.i c.index_mut.result.now) c.self.view_is)

pub overflow_cast-owners : goal.overflow_cast-owners
overflow_cast-owners c =
    let n = ap (λ (w : WorldState). length w.seats) c.self.view_is in
    let few =
    seats_few c.requires.sound.0 c.requires.sound.1 c.args.self.now c.requires.sound.2 c.args.i
    c.requires.possible.0 c.requires.possible.1 in
    omega (arith, n, few, c.len-owners.ensures)

pub index_mut-requires : goal.index_mut-requires
index_mut-requires c =
    let n = ap (λ (w : WorldState). length w.seats) c.self.view_is in
    omega (
      arith,
      n,
      place_in c.args.self.now c.args.i c.requires.possible.0 c.requires.possible.1,
      c.len-owners.ensures,
    )

pub load-requires-clause-sound : goal.load-requires-clause-sound
load-requires-clause-sound c =
    let d = (goal.at.load-requires-clause-sound c).After-index_mut in
    subst (λ (s : Seat). IsSoundOwner s.owner) (sym (is d))
    (c.requires.sound.2.seats c.args.i c.requires.possible.0 c.requires.possible.1).sound

pub load-requires-clause-whole : goal.load-requires-clause-whole
load-requires-clause-whole c =
    let d = (goal.at.load-requires-clause-whole c).After-index_mut in
    ap (λ (s : Seat). s.owner.broken) (is d)
    ∙ (c.requires.sound.2.seats c.args.i c.requires.possible.0 c.requires.possible.1).whole

pub load-requires-clause-unloaded : goal.load-requires-clause-unloaded
load-requires-clause-unloaded c =
    let d = (goal.at.load-requires-clause-unloaded c).After-index_mut in
    ap (λ (s : Seat). s.owner.loaded) (is d) ∙ c.requires.possible.2

pub load-requires-clause-owners : goal.load-requires-clause-owners
load-requires-clause-owners c =
    let d = (goal.at.load-requires-clause-owners c).After-index_mut in
    let n = ap (λ (w : WorldState). length w.seats) c.self.view_is in
    let o = owners_is c.requires.sound.0 c.requires.sound.1 c.args.self.now c.requires.sound.2 c.args.i
    c.requires.possible.0 c.requires.possible.1 in
    let e = ap (λ (s : Seat). s.owner.cut.owners) (is d) in
    omega (arith, n, o, e, c.len-owners.ensures)

pub load-requires-clause-lanes : goal.load-requires-clause-lanes
load-requires-clause-lanes c =
    let d = (goal.at.load-requires-clause-lanes c).After-index_mut in
    let n = ap (λ (w : WorldState). length w.seats) c.self.view_is in
    let o = lanes_is c.requires.sound.0 c.requires.sound.1 c.args.self.now c.requires.sound.2 c.args.i
    c.requires.possible.0 c.requires.possible.1 in
    let e = ap (λ (s : Seat). length s.lanes) (is d) in
    omega (arith, n, o, e, c.len-owners.ensures)

pub load-requires-clause-none_fresh : goal.load-requires-clause-none_fresh
load-requires-clause-none_fresh c =
    let d = (goal.at.load-requires-clause-none_fresh c).After-index_mut in
    let idle =
    (c.requires.sound.2.seats c.args.i c.requires.possible.0 c.requires.possible.1).unloaded c.requires.possible.2
    in
    subst (λ (s : Seat). (j : ℕ) → (lane_to s j).fresh ≡ []) (sym (is d))
    (none_fresh c.requires.sound.0 c.requires.sound.1 c.args.self.now c.requires.sound.2 c.args.i
    c.requires.possible.0 c.requires.possible.1 idle)

pub returns-clause-does : goal.returns-clause-does
returns-clause-does c =
    let d = (goal.at.returns-clause-does c).After-index_mut in (
      c.index_mut.result.now,
      c.load.new.self,
      subst (IsAt c.args.self.now c.args.i) (sym (is d)) c.requires.possible.1,
      ap (λ (s : Seat). s.owner.loaded) (is d) ∙ c.requires.possible.2,
      c.in_ok-load.ensures.turns,
      c.in_ok-load.ensures.received,
      ap (λ (w : WorldState). with_seat w c.args.i c.load.new.self) c.self.view_is,
    )

pub returns-in_err-load-clause-orderly : goal.returns-in_err-load-clause-orderly
returns-in_err-load-clause-orderly c =
    let d = (goal.at.returns-in_err-load-clause-orderly c).After-index_mut in
    let on = subst (λ (s : Seat). OwnerGoesOn NoGrowth s.owner c.load.new.self.owner) (is d) c.load.ensures.goes_on in
    let all : (q : Problem) (e : Cut) → IsOrderly q e c.args.self.now
    → IsOrderly q e (record {
      seats = slice_set c.self.inside.seats.items c.args.i c.load.new.self;
      balance = c.self.inside.balance;
    }) = λ q e orderly.
    orderly_after q e c.args.self.now (record
    { seats = c.self.inside.seats.items; balance = c.self.inside.balance }) c.args.i c.requires.possible.0
    c.load.new.self c.self.inside.balance c.self.view_is c.requires.possible.1 on orderly in
    on_err_always _ all
