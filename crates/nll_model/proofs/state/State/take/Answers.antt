use Rattle.std.proofs.Common.{◌≡◌, ℕ, [], length, get_or, slice_set, sym, ap, ◌∙◌, subst, arith}
use Rattle.nll_owner.specs.Owner.{IsSoundOwner, Passes, with_growth}
use Rattle.nll_model.specs.State.{Seat, WorldState, with_lane, lane_to}
use Rattle.nll_model.specs.Events.{TakesTurn}
use Rattle.nll_model.proofs.StateLemmas.{seat_is, place_in, owners_is, lanes_is, seats_few, none_fresh, other_is, passes, taken_is, taken_orderly}
use Rattle.nll_problem.specs.Problem.{Problem}
use Rattle.nll_cut.specs.Partition.{Cut}
use Rattle.nll_owner.proofs.ReceiptLemmas.{on_err_always}
use Rattle.nll_model.specs.Soundness.{IsOrderly}
use Rattle.nll_model.specs.Working.{OwnerGoesOn, IsGrowthFrom}
use Rattle.nll_model.proofs.state.State.take.Goals as goal
use Rattle.nll_model.proofs.state.State.take.Goals.{After-index_mut, After-index_mut-in-Some}

giver : (c : After-index_mut) → c.index_mut.result.now ≡ c.requires.possible.1
giver c =
    seat_is c.args.self.now c.args.j c.requires.possible.1 c.index_mut.result.now c.requires.possible.5
    (c.index_mut.ensures.value ∙ ap (λ (w : WorldState). get_or w.seats c.args.j c.index_mut.result.now) c.self.view_is)

taker : (c : After-index_mut-in-Some) → c.index_mut-in-Some.result.now ≡ c.requires.possible.0
taker c =
    other_is c.requires.sound.0 c.requires.sound.1 c.args.self.now c.requires.sound.2 c.args.i c.args.j
    c.requires.possible.0 c.requires.possible.1 c.requires.possible.2 c.requires.possible.3 c.requires.possible.4
    c.requires.possible.5
    c.take.new.self c.index_mut-in-Some.result.now
    (c.index_mut-in-Some.ensures.value ∙ ap
    (λ (w : WorldState). get_or (slice_set w.seats c.args.j c.take.new.self) c.args.i c.index_mut-in-Some.result.now)
    c.self.view_is)

pub overflow_cast-owners : goal.overflow_cast-owners
overflow_cast-owners c =
    let n = ap (λ (w : WorldState). length w.seats) c.self.view_is in
    let few =
    seats_few c.requires.sound.0 c.requires.sound.1 c.args.self.now c.requires.sound.2 c.args.i
    c.requires.possible.0 c.requires.possible.3 in
    omega (arith, n, few, c.len-owners.ensures)

pub index_mut-requires : goal.index_mut-requires
index_mut-requires c =
    let n = ap (λ (w : WorldState). length w.seats) c.self.view_is in
    omega (
      arith,
      n,
      place_in c.args.self.now c.args.j c.requires.possible.1 c.requires.possible.5,
      c.len-owners.ensures,
    )

pub take-requires : goal.take-requires
take-requires c =
    let d = (goal.at.take-requires c).After-index_mut in
    let e = ap (λ (s : Seat). length s.lanes) (giver d) in
    omega (
      arith,
      e,
      place_in c.args.self.now c.args.i c.requires.possible.0 c.requires.possible.3,
      lanes_is c.requires.sound.0 c.requires.sound.1 c.args.self.now c.requires.sound.2 c.args.j c.requires.possible.1
          c.requires.possible.5,
    )

pub index_mut-requires-in-Some : goal.index_mut-requires-in-Some
index_mut-requires-in-Some c =
    let n = ap (λ (w : WorldState). length w.seats) c.self.view_is in
    omega (
      arith,
      n,
      place_in c.args.self.now c.args.i c.requires.possible.0 c.requires.possible.3,
      c.len-owners.ensures,
    )

pub receive-requires-clause-sound : goal.receive-requires-clause-sound
receive-requires-clause-sound c =
    let d = (goal.at.receive-requires-clause-sound c).After-index_mut-in-Some in
    subst (λ (s : Seat). IsSoundOwner s.owner) (sym (taker d))
    (c.requires.sound.2.seats c.args.i c.requires.possible.0 c.requires.possible.3).sound

pub receive-requires-clause-whole : goal.receive-requires-clause-whole
receive-requires-clause-whole c =
    let d = (goal.at.receive-requires-clause-whole c).After-index_mut-in-Some in
    ap (λ (s : Seat). s.owner.broken) (taker d)
    ∙ (c.requires.sound.2.seats c.args.i c.requires.possible.0 c.requires.possible.3).whole

pub receive-requires-clause-loaded : goal.receive-requires-clause-loaded
receive-requires-clause-loaded c =
    let d = (goal.at.receive-requires-clause-loaded c).After-index_mut-in-Some in
    ap (λ (s : Seat). s.owner.loaded) (taker d) ∙ c.requires.possible.4.0

pub receive-requires-clause-passes : goal.receive-requires-clause-passes
receive-requires-clause-passes c =
    let d = (goal.at.receive-requires-clause-passes c).After-index_mut-in-Some in
    let e = (goal.at.receive-requires-clause-passes c).After-index_mut in
    let first = ap (λ (s : Seat). (lane_to s c.args.i).box) (sym (giver e)) ∙ c.in-Some.ensures.1 in
    subst (λ (s : Seat). Passes s.owner.problem s.owner.cut s.owner.me c.args.j c.in-Some.growth) (sym (taker d))
    (passes c.requires.sound.0 c.requires.sound.1 c.args.self.now c.requires.sound.2 c.args.i c.args.j
    c.requires.possible.0 c.requires.possible.1 c.requires.possible.2 c.requires.possible.3 c.requires.possible.4
    c.requires.possible.5 c.in-Some.growth c.in-Some.ensures.0 first)

pub receive-requires-clause-owners : goal.receive-requires-clause-owners
receive-requires-clause-owners c =
    let d = (goal.at.receive-requires-clause-owners c).After-index_mut-in-Some in
    let n = ap (λ (w : WorldState). length w.seats) c.self.view_is in
    let o = owners_is c.requires.sound.0 c.requires.sound.1 c.args.self.now c.requires.sound.2 c.args.i
    c.requires.possible.0 c.requires.possible.3 in
    let e = ap (λ (s : Seat). s.owner.cut.owners) (taker d) in
    omega (arith, n, o, e, c.len-owners.ensures)

pub receive-requires-clause-lanes : goal.receive-requires-clause-lanes
receive-requires-clause-lanes c =
    let d = (goal.at.receive-requires-clause-lanes c).After-index_mut-in-Some in
    let n = ap (λ (w : WorldState). length w.seats) c.self.view_is in
    let o = lanes_is c.requires.sound.0 c.requires.sound.1 c.args.self.now c.requires.sound.2 c.args.i
    c.requires.possible.0 c.requires.possible.3 in
    let e = ap (λ (s : Seat). length s.lanes) (taker d) in
    omega (arith, n, o, e, c.len-owners.ensures)

pub receive-requires-clause-none_fresh : goal.receive-requires-clause-none_fresh
receive-requires-clause-none_fresh c =
    let d = (goal.at.receive-requires-clause-none_fresh c).After-index_mut-in-Some in
    subst (λ (s : Seat). (j : ℕ) → (lane_to s j).fresh ≡ []) (sym (taker d))
    (none_fresh c.requires.sound.0 c.requires.sound.1 c.args.self.now c.requires.sound.2 c.args.i
    c.requires.possible.0 c.requires.possible.3 c.requires.possible.4.1)

pub unreachable-requires : goal.unreachable-requires
unreachable-requires c =
    let e = (goal.at.unreachable-requires c).After-index_mut in
    c.requires.possible.6 (ap (λ (s : Seat). (lane_to s c.args.i).box) (sym (giver e)) ∙ c.in-None.ensures)

pub returns-clause-does : goal.returns-clause-does
returns-clause-does c =
    let d = (goal.at.returns-clause-does c).After-index_mut-in-Some in
    let e = (goal.at.returns-clause-does c).After-index_mut in
    let s = c.requires.possible.0 in let u = c.requires.possible.1 in
    let first = ap (λ (x : Seat). (lane_to x c.args.i).box) (sym (giver e)) ∙ c.in-Some.ensures.1 in
    let left =
    c.in-Some.ensures.2 ∙ ap (λ (x : Seat).
    with_lane x c.args.i (record (lane_to x c.args.i) { box = c.in-Some.ensures.0 })) (giver e) in
    let t = c.receive.new.self in (
      s,
      t,
      u,
      c.in-Some.growth,
      c.in-Some.ensures.0,
      c.requires.possible.2,
      c.requires.possible.3,
      c.requires.possible.4.0,
      c.requires.possible.4.1,
      c.requires.possible.4.2,
      c.requires.possible.5,
      first,
      subst (λ (x : Seat). TakesTurn x t) (taker d) c.in_ok-receive-in-Some.ensures.turns,
      subst (λ (x : Seat). t.owner.received ≡ with_growth x.owner.received c.args.j c.in-Some.growth)
          (taker d) c.in_ok-receive-in-Some.ensures.received,
      ap (λ (w : WorldState). record {
        seats = slice_set (slice_set w.seats c.args.j c.take.new.self) c.args.i t;
        balance = w.balance;
      }) c.self.view_is
          ∙ taken_is c.requires.sound.0 c.requires.sound.1 c.args.self.now c.requires.sound.2 c.args.i c.args.j s u
          c.requires.possible.2 c.requires.possible.3 c.requires.possible.4 c.requires.possible.5 t c.take.new.self
          _ left,
    )

pub returns-in_err-receive-in-Some-clause-orderly : goal.returns-in_err-receive-in-Some-clause-orderly
returns-in_err-receive-in-Some-clause-orderly c =
    let d = (goal.at.returns-in_err-receive-in-Some-clause-orderly c).After-index_mut-in-Some in
    let e = (goal.at.returns-in_err-receive-in-Some-clause-orderly c).After-index_mut in
    let first = ap (λ (x : Seat). (lane_to x c.args.i).box) (sym (giver e)) ∙ c.in-Some.ensures.1 in
    let left =
    c.in-Some.ensures.2 ∙ ap (λ (x : Seat).
    with_lane x c.args.i (record (lane_to x c.args.i) { box = c.in-Some.ensures.0 })) (giver e) in
    let on =
    subst (λ (x : Seat). OwnerGoesOn (IsGrowthFrom c.args.j c.in-Some.growth) x.owner c.receive.new.self.owner)
    (taker d) c.receive.ensures.goes_on in
    let all : (q : Problem) (f : Cut) → IsOrderly q f c.args.self.now
    → IsOrderly q f (record {
      seats = slice_set
          (slice_set c.self.inside.seats.items c.args.j c.take.new.self) c.args.i c.receive.new.self;
      balance =
          c.self.inside.balance;
    }) = λ q f orderly.
    subst (λ (w : WorldState). IsOrderly q f
    (record {
      seats = slice_set (slice_set w.seats c.args.j c.take.new.self) c.args.i c.receive.new.self;
      balance = w.balance;
    })) (sym c.self.view_is)
    (taken_orderly c.requires.sound.0 c.requires.sound.1 c.args.self.now c.requires.sound.2 c.args.i c.args.j
    c.requires.possible.0 c.requires.possible.1 c.requires.possible.2 c.requires.possible.3 c.requires.possible.4
    c.requires.possible.5
    c.in-Some.growth c.in-Some.ensures.0 first c.take.new.self c.receive.new.self _ left on q f orderly) in
    on_err_always _ all
