use Rattle.std.proofs.Common.{refl, sym, ap, ◌∙◌, subst}
use Rattle.nll_owner.specs.Owner.{Owner}
use Rattle.nll_model.specs.declared.seat.Item.TheVariants.{Fresh}
use Rattle.nll_model.specs.State.{Seat}
use Rattle.nll_model.specs.Events.{TakesTurn}
use Rattle.nll_model.proofs.FillLemmas.{turned}
use Rattle.nll_model.proofs.seat.Seat.load.Goals as goal

pub returns-clause-turns : goal.returns-clause-turns
returns-clause-turns c =
    let done = c.in_ok-load.ensures.done in
    let ok = c.in_ok-load.ensures.ok in
    let old : Seat =
    record {
      owner = c.self.inside.owner;
      item = c.self.inside.item;
      left = c.self.inside.left;
      lanes = c.self.inside.lanes.items;
    } in
    let middle : Seat =
    record {
      owner = c.load.new.self;
      item = c.self.inside.item;
      left = c.self.inside.left;
      lanes = c.self.inside.lanes.items;
    } in
    let all = turned old middle c.fill.new.self c.args.owners c.load.ensures.begins
    (ap (λ (o : Owner). o.problem) c.load.ensures.others) (ap (λ (o : Owner). o.cut) c.load.ensures.others)
    (ap (λ (o : Owner). o.me) c.load.ensures.others) (ap (λ (o : Owner). o.given) c.load.ensures.others)
    refl refl done ok.2 ok.1 (rw (← c.self.view_is) at c.requires.none_fresh)
    ((rw (← c.self.view_is) at c.requires.owners) ∙ sym (ap (λ (o : Owner). o.cut.owners) c.load.ensures.others))
    c.in_ok-fill.ensures.fills in
    subst (λ (s : Seat). TakesTurn s (record {
      owner = c.self-2.inside.owner;
      item = Fresh;
      left = c.self-2.inside.left;
      lanes = c.self-2.inside.lanes.items;
    })) c.self.view_is
    (subst (λ (s : Seat). TakesTurn old (record s { item = Fresh })) (sym c.self-2.view_is) all)
