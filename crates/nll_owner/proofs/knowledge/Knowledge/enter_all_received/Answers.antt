use Rattle.std.proofs.Common.{List, take, sym, ap, ◌∙◌, subst, arith}
use Rattle.nll_mail.specs.declared.growth.Growth.{Growth}
use Rattle.nll_owner.specs.Owner.{Owner, Passes, with_growths}
use Rattle.nll_owner.specs.Keeping.{HasAllBeside}
use Rattle.nll_owner.proofs.ReceivingLemmas.{beside_some, between, in_between, take_on, with_some, received_on}
use Rattle.nll_owner.proofs.knowledge.Knowledge.enter_all_received.Goals as goal

pub enter_run-requires-clause-passes : goal.enter_run-requires-clause-passes
enter_run-requires-clause-passes c g at =
    subst (λ (o : Owner). Passes o.problem o.cut o.me c.args.from g) (sym c.loop-place.invariant.others)
    (c.requires.passes g (in_between c.args.growths.now c.loop-place.place _ g at))

pub loop-place-preserved : goal.loop-place-preserved
loop-place-preserved c =
    let old = c.args.self.now in
    let new = c.enter_run.new.self in
    let before = c.loop-place.invariant in
    let gs : List Growth = take c.loop-place.place c.args.growths.now in
    let hs : List Growth = between c.args.growths.now c.loop-place.place c.run_from-run.result.1 in
    let ok = c.in_ok-enter_run.ensures.ok in
    let is = take_on c.args.growths.now c.loop-place.place c.run_from-run.result.1
    (omega (arith, c.run_from-run.ensures.more)) in
    record {
      others = received_on old c.loop-place.self new _ _ before.others ok;
      received = ap (λ (o : Owner). o.received) ok
          ∙ (ap (λ lists. with_growths lists c.args.from hs) before.received
          ∙ (with_some old.received c.args.from gs hs ∙ ap (with_growths old.received c.args.from) (sym is)));
      has = subst (λ gs. HasAllBeside gs old new) (sym is)
          (beside_some old c.loop-place.self new gs hs before.has c.in_ok-enter_run.ensures.has);
      sound = c.in_ok-enter_run.ensures.sound;
    }
