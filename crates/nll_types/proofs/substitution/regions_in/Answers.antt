use Rattle.std.proofs.Common.{◌≤◌, length, arith}
use Rattle.std.proofs.lemmas.List.{take_more, take_all, map_push}
use Rattle.nll_types.proofs.substitution.regions_in.Goals as goal

pub loop-region-preserved : goal.loop-region-preserved
loop-region-preserved c =
    let more = take_more c.args.of.now c.loop-region.region-index c.region-item.result c.loop-region-test.true in
    let pushed = c.push_reserved.ensures in (
      rw (more, ← c.region-item.is, map_push, ← c.loop-region.invariant.0, ← c.region_in.ensures) pushed.items,
      omega arith,
      omega arith,
    )

pub returns : goal.returns
returns c =
    let past : length c.args.of.now ≤ c.loop-region.region-index = omega arith in
    rw (take_all c.loop-region.region-index c.args.of.now past) at c.loop-region.invariant.0

pub push_reserved-requires : goal.push_reserved-requires
push_reserved-requires c = omega arith
