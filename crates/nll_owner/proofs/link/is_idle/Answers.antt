use Rattle.std.proofs.Common.{arith}
use Rattle.std.proofs.lemmas.List.{get_or_default}
use Rattle.nll_core.specs.Frontiers.{IsIdle}
use Rattle.nll_owner.specs.declared.region_runs.RegionRun.{RegionRun}
use Rattle.nll_owner.proofs.RegionRunLemmas.{at_next}
use Rattle.nll_owner.proofs.link.is_idle.Goals as goal

pub loop-number-preserved : goal.loop-number-preserved
loop-number-preserved c =
    at_next (λ (k : RegionRun). IsIdle c.args.link.now.frontier.starts k.run c.args.link.now.frontier.reached)
    c.args.due.now.runs.now c.loop-number.number _
    (omega (arith, c.loop-number-test.true, c.requires))
    (get_or_default c.args.due.now.runs.now c.loop-number.number _ _
    (omega (arith, c.loop-number-test.true, c.requires)))
    c.loop-number.invariant (c.is_idle.ensures c.if-not-is_idle.false)
