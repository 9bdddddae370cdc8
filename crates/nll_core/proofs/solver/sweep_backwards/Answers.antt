use Rattle.std.proofs.Common.{◌-◌, get_or, arith}
use Rattle.std.proofs.lemmas.List.Elements.{Contains-get_or}
use Rattle.nll_core.proofs.solver.sweep_backwards.Goals as goal

pub turn-requires-clause-region : goal.turn-requires-clause-region
turn-requires-clause-region c =
    let at = c.loop-place.place - 1 in
    c.requires.order (get_or c.args.order.now at 0)
    (Contains-get_or c.args.order.now at 0 (omega (arith, c.loop-place-test.true, c.loop-place.invariant.within)))
