use Rattle.std.proofs.Common.{take}
use Rattle.std.proofs.lemmas.List.{take_more}
use Rattle.nll_rules.proofs.StatementLemmas.{outlives_more}
use Rattle.nll_rules.proofs.asking.ask_outlives.Goals as goal

pub loop-longer-preserved : goal.loop-longer-preserved
loop-longer-preserved c =
    let n = c.loop-longer.longer-index in
    let y = c.longer-item.result in
    rw (take_more c.args.regions.now n y c.loop-longer-test.true, ← c.longer-item.is)
    (outlives_more (take n c.args.regions.now) y c.args.region _ _ _ c.in_ok-push.ensures.items c.loop-longer.invariant)
