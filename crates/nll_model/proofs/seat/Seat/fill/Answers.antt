use Rattle.std.proofs.Common.{◌≡◌, ap, ◌∙◌, subst, arith}
use Rattle.nll_owner.specs.Owner.{Owner}
use Rattle.nll_model.specs.Working.{FillsLanes}
use Rattle.nll_model.proofs.FillLemmas.{fills_none, fills_more}
use Rattle.nll_model.proofs.seat.Seat.fill.Goals as goal

pub loop-to-init : goal.loop-to-init
loop-to-init c = rw (← c.self.view_is) (fills_none _ (rw (← c.self.view_is) at c.requires.sound))

pub index_mut-requires : goal.index_mut-requires
index_mut-requires c = omega (arith, c.loop-to-test.true, c.requires.lanes, c.loop-to.invariant.lane_count)

pub collect-requires-clause-sound : goal.collect-requires-clause-sound
collect-requires-clause-sound c = c.loop-to.invariant.sound

pub collect-requires-clause-whole : goal.collect-requires-clause-whole
collect-requires-clause-whole c = ap (λ (o : Owner). o.broken) c.loop-to.invariant.owner ∙ c.requires.whole

pub collect-requires-clause-to : goal.collect-requires-clause-to
collect-requires-clause-to c =
    omega (arith, c.loop-to-test.true, c.requires.owners, ap (λ (o : Owner). o.cut.owners) c.loop-to.invariant.owner)

pub loop-to-preserved : goal.loop-to-preserved
loop-to-preserved c =
    fills_more _ _ _ c.loop-to.invariant c.index_mut.result.now c.collect.new.self c.collect.new.owner
    (omega (arith, c.loop-to-test.true, c.requires.lanes, c.loop-to.invariant.lane_count)) c.index_mut.ensures.value
    c.in_ok-collect.ensures.fresh c.in_ok-collect.ensures.given c.collect.ensures.others c.collect.ensures.other_given
    c.collect.ensures.sound

pub returns : goal.returns
returns c =
    let end : c.loop-to.to ≡ c.args.owners = omega (arith, c.loop-to-test.false, c.loop-to.auto.to-end) in
    record {
      fills = subst (FillsLanes c.args.self.now _) end c.loop-to.invariant;
      owner = c.loop-to.invariant.owner;
      sound = c.loop-to.invariant.sound;
    }
