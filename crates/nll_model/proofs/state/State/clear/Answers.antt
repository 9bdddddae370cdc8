use Rattle.std.proofs.Common.{◌≡◌, ◌-◌, ◌<◌, get_or, slice_set, ap, ◌∙◌, arith}
use Rattle.nll_model.specs.declared.seat.Item.TheVariants.{Nothing}
use Rattle.nll_model.specs.State.{Seat, WorldState}
use Rattle.nll_model.proofs.BoundLemmas.{balance_some}
use Rattle.nll_model.proofs.StateLemmas.{seat_is}
use Rattle.nll_model.proofs.state.State.clear.Goals as goal
use Rattle.nll_model.proofs.state.State.clear.Goals.{After-index_mut}

is : (c : After-index_mut) → c.index_mut.result.now ≡ c.requires.possible.0
is c = seat_is c.args.self.now c.args.i c.requires.possible.0 c.index_mut.result.now c.requires.possible.1
    (c.index_mut.ensures.value ∙ ap (λ (w : WorldState). get_or w.seats c.args.i c.index_mut.result.now) c.self.view_is)

some : (c : After-index_mut) → 0 < c.self.inside.balance
some c =
    let n = ap (λ (w : WorldState). w.balance) c.self.view_is in
    let b = balance_some c.requires.sound.0 c.requires.sound.1 c.args.self.now c.requires.sound.2 c.args.i
    c.requires.possible.0 c.requires.possible.1 c.requires.possible.2 in
    omega (arith, n, b)

pub overflow_sub-self : goal.overflow_sub-self
overflow_sub-self c = (let d = (goal.at.overflow_sub-self c).After-index_mut in omega (arith, some d))

pub returns : goal.returns
returns c =
    let d = (goal.at.returns c).After-index_mut in
    let n = ap (λ (w : WorldState). w.balance) c.self.view_is in
    let cleared : c.clear.new.self ≡ record c.requires.possible.0 { item = Nothing } = c.clear.ensures
    ∙ ap (λ (s : Seat). record s { item = Nothing }) (is d) in (
      c.requires.possible.0,
      c.requires.possible.1,
      c.requires.possible.2,
      omega (arith, n, some d),
      ap (λ (w : WorldState). record {
        seats = slice_set w.seats c.args.i c.clear.new.self;
        balance = c.self.inside.balance - 1;
      }) c.self.view_is
          ∙ ap (λ (s : Seat). record {
            seats = slice_set c.args.self.now.seats c.args.i s;
            balance = c.self.inside.balance - 1;
          }) cleared,
    )
