use Rattle.nll_core.proofs.WorklistLemmas.{sweeping_more}
use Rattle.nll_core.proofs.solver.sweep_all.Goals as goal

pub loop-region-preserved : goal.loop-region-preserved
loop-region-preserved c = record {
  sweeping =
      sweeping_more c.args.problem.now _ _ _ _ _ _ _ c.loop-region.region c.loop-region.invariant.sweeping
      c.in_ok-new.ensures.turns c.in_ok-new.ensures.clean;
  walk = c.in_ok-new.ensures.walk;
}
