use Rattle.std.proofs.Common.{arith}
use Rattle.nll_owner.proofs.LogRunLemmas.{run_first, run_more}
use Rattle.nll_owner.proofs.region_runs.run_from.Goals as goal

pub loop-end-init : goal.loop-end-init
loop-end-init c =
    run_first c.args.growths.now c.args.place c.element.inside.0 c.index-growths-place.result
    c.index-growths-place-2.result c.requires (omega (arith, c.element.view_is))

pub loop-end-preserved : goal.loop-end-preserved
loop-end-preserved c =
    run_more c.args.growths.now c.args.place c.loop-end.end _ c.element.inside.0 c.loop-end.last
    c.index-growths-end.result
    c.loop-end.invariant c.loop-end-test.true c.index-growths-end.is (c.is_next.ensures.tells.0 c.if-is_next.true)
