use Rattle.nll_live.proofs.GatheringLemmas.{lists_step}
use Rattle.nll_live.proofs.points_by_variable.list_at_all.Goals as goal

pub loop-variable-preserved : goal.loop-variable-preserved
loop-variable-preserved c =
    lists_step c.args.variables.now c.loop-variable.variable-index c.args.point _ _ _ c.loop-variable-test.true
    c.loop-variable.invariant c.in_ok-list_at.ensures.lists
