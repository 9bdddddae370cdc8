use Rattle.std.proofs.Common.{refl, sym, ap, ◌∙◌, subst}
use Rattle.nll_owner.specs.Owner.{Owner}
use Rattle.nll_model.specs.declared.seat.Item.TheVariants.{Fresh}
use Rattle.nll_model.specs.State.{Seat}
use Rattle.nll_model.specs.Events.{TakesTurn}
use Rattle.nll_model.proofs.FillLemmas.{turned}
use Rattle.nll_model.specs.Working.{OwnerGoesOn, IsGrowthFrom}
use Rattle.nll_model.proofs.OrderlyLemmas.{given_out, goes_further, received_on}
use Rattle.nll_model.proofs.seat.Seat.receive.Goals as goal
use Rattle.nll_model.proofs.seat.Seat.receive.Goals.{After-receive, After-fill}

pub returns-clause-turns : goal.returns-clause-turns
returns-clause-turns c =
    let done = c.in_ok-receive.ensures.done in
    let loaded = ap (λ (o : Owner). o.loaded) c.receive.ensures.others ∙ (rw (← c.self.view_is) at c.requires.loaded) in
    let old : Seat =
    record {
      owner = c.self.inside.owner;
      item = c.self.inside.item;
      left = c.self.inside.left;
      lanes = c.self.inside.lanes.items;
    } in
    let middle : Seat =
    record {
      owner = c.receive.new.self;
      item = c.self.inside.item;
      left = c.self.inside.left;
      lanes = c.self.inside.lanes.items;
    } in
    let all = turned old middle c.fill.new.self c.args.owners c.receive.ensures.begins
    (ap (λ (o : Owner). o.problem) c.receive.ensures.others) (ap (λ (o : Owner). o.cut) c.receive.ensures.others)
    (ap (λ (o : Owner). o.me) c.receive.ensures.others) (ap (λ (o : Owner). o.given) c.receive.ensures.others)
    refl refl done c.in_ok-receive.ensures.ok.1 loaded (rw (← c.self.view_is) at c.requires.none_fresh)
    ((rw (← c.self.view_is) at c.requires.owners) ∙ sym (ap (λ (o : Owner). o.cut.owners) c.receive.ensures.others))
    c.in_ok-fill.ensures.fills in
    subst (λ (s : Seat). TakesTurn s (record {
      owner = c.self-2.inside.owner;
      item = Fresh;
      left = c.self-2.inside.left;
      lanes = c.self-2.inside.lanes.items;
    })) c.self.view_is
    (subst (λ (s : Seat). TakesTurn old (record s { item = Fresh })) (sym c.self-2.view_is) all)

received : (c : After-receive) → OwnerGoesOn
    (IsGrowthFrom c.args.from c.args.growth) c.args.self.now.owner c.receive.new.self
received c =
    subst (λ (o : Owner). OwnerGoesOn (IsGrowthFrom c.args.from c.args.growth) o c.receive.new.self)
    (ap (λ (s : Seat). s.owner) c.self.view_is)
    (received_on c.self.inside.owner c.receive.new.self c.args.from c.args.growth c.receive.ensures.begins
    c.receive.ensures.others c.receive.ensures.perhaps c.receive.ensures.sound)

filled : (c : After-fill) → OwnerGoesOn (IsGrowthFrom c.args.from c.args.growth) c.args.self.now.owner
    c.receive.new.self
    → OwnerGoesOn (IsGrowthFrom c.args.from c.args.growth) c.args.self.now.owner c.fill.new.self.owner
filled c one =
    goes_further (IsGrowthFrom c.args.from c.args.growth) c.args.self.now.owner c.receive.new.self c.fill.new.self.owner
    one
    (given_out c.receive.new.self c.fill.new.self.owner c.fill.ensures.owner c.fill.ensures.sound)

pub returns-in_err-receive-clause-goes_on : goal.returns-in_err-receive-clause-goes_on
returns-in_err-receive-clause-goes_on c = received (goal.at.returns-in_err-receive-clause-goes_on c).After-receive

pub returns-in_err-fill-clause-goes_on : goal.returns-in_err-fill-clause-goes_on
returns-in_err-fill-clause-goes_on c =
    (let at = goal.at.returns-in_err-fill-clause-goes_on c in filled at.After-fill (received at.After-receive))

pub returns-clause-goes_on : goal.returns-clause-goes_on
returns-clause-goes_on c =
    subst (λ (s : Seat). OwnerGoesOn (IsGrowthFrom c.args.from c.args.growth) c.args.self.now.owner s.owner)
    (sym c.self-2.view_is) (let at = goal.at.returns-clause-goes_on c in
    filled at.After-fill (received at.After-receive))
