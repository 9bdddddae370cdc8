use Rattle.std.proofs.Common.{arith}
use Rattle.nll_owner.proofs.RegionRunLemmas.{listed_none, listed_more, listed_all}
use Rattle.nll_owner.proofs.region_runs.list_runs.Goals as goal

pub loop-place-init : goal.loop-place-init
loop-place-init c = listed_none c.args.growths.now c.args.list.now.items c.requires.none

pub loop-place-preserved : goal.loop-place-preserved
loop-place-preserved c =
    rw c.in_ok-push.ensures.items (listed_more c.args.growths.now c.loop-place.place _ _ _ c.loop-place.list.items
    c.run_from-run.ensures c.loop-place.invariant)

pub returns : goal.returns
returns c =
    listed_all c.args.growths.now c.loop-place.place c.loop-place.list.items
    (omega (arith, c.loop-place-test.false)) c.loop-place.invariant
