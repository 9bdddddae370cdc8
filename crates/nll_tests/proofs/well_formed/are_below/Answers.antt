use Rattle.std.proofs.Common.{◌≤◌, ◌<◌, length, arith}
use Rattle.std.proofs.lemmas.List.{take_more, take_all}
use Rattle.std.proofs.lemmas.List.Elements.{All-push}
use Rattle.nll_tests.proofs.well_formed.are_below.Goals as goal

pub loop-region-preserved : goal.loop-region-preserved
loop-region-preserved c =
    let more = take_more c.args.regions.now c.loop-region.region-index c.region-item.result c.loop-region-test.true in
    rw (more, ← c.region-item.is)
    (All-push (λ r. r < c.args.bound) _ c.region-item.result c.loop-region.invariant (omega arith))

pub returns : goal.returns
returns c =
    let past : length c.args.regions.now ≤ c.loop-region.region-index = omega arith in
    λ h. rw (take_all c.loop-region.region-index c.args.regions.now past) at c.loop-region.invariant
