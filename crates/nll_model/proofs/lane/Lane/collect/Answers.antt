use Rattle.nll_model.proofs.CollectLemmas.{collecting_more}
use Rattle.nll_model.proofs.lane.Lane.collect.Goals as goal

pub loop-growth-preserved : goal.loop-growth-preserved
loop-growth-preserved c =
    let inv = c.loop-growth.invariant in
    record {
      collecting =
          rw c.in_ok-push_back.ensures.items (collecting_more _ _ _ _ _ _ inv.collecting c.requires.to
          c.in-Some.growth c.in-Some.ensures.some.1 c.in-Some.ensures.some.2 c.outgoing.ensures.sound);
      out = inv.out;
      box = inv.box;
    }
