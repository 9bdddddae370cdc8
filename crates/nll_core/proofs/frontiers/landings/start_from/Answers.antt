use Rattle.nll_core.proofs.LandingLemmas.{next_within, below_next, start_behind, start_here}
use Rattle.nll_core.proofs.frontiers.landings.start_from.Goals as goal

pub loop-place-init : goal.loop-place-init
loop-place-init c = record { within = c.requires.from; below = c.requires.below }

pub loop-place-preserved : goal.loop-place-preserved
loop-place-preserved c =
    let now = c.loop-place in
    record {
      within = next_within now.place _ c.loop-place-test.true;
      below = below_next c.args.list.now c.args.number now.place _ now.invariant.below c.loop-place-test.true
          c.if-list-place.true;
    }

pub returns-else-list-place : goal.returns-else-list-place
returns-else-list-place c =
    start_here c.args.list.now c.args.number c.loop-place.place _ c.requires.ascending c.loop-place.invariant.below
    c.loop-place-test.true
    c.if-list-place.false

pub returns-after-loop-place : goal.returns-after-loop-place
returns-after-loop-place c =
    start_behind c.args.list.now c.args.number c.loop-place.place c.loop-place.invariant.below
    c.loop-place.invariant.within c.loop-place-test.false
