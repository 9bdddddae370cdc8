use Rattle.std.proofs.Common.{◌+◌, ◌<◌, length, arith}
use Rattle.nll_core.specs.Values.{set_of}
use Rattle.nll_core.proofs.GrowingLemmas.{gains_weaker}
use Rattle.nll_core.proofs.SolverLemmas.{filling_first, filling_more}
use Rattle.nll_core.proofs.bases.insert_universals.Goals as goal

pub loop-number-init : goal.loop-number-init
loop-number-init c = filling_first _ _

pub loop-number-preserved : goal.loop-number-preserved
loop-number-preserved c =
    let number = c.loop-number.number in
    let some = c.points-points.ensures.sound.graph.some_point in
    let values = c.insert_run.new.self in
    let universal : number < c.args.problem.now.graph.universals = omega arith in
    let region : number < c.args.problem.now.regions =
    omega (arith, universal, c.points-points.ensures.sound.universals_are_regions) in
    let within : number < length values =
    omega (
      arith,
      region,
      c.requires.regions,
      c.loop-number.invariant.gains.width,
      c.in_ok-insert_run.ensures.gains.width,
    ) in
    let below : c.points-points.result + number < length (set_of values number) =
    omega (
      arith,
      universal,
      c.requires.elements number region,
      c.loop-number.invariant.gains.widths number,
      c.in_ok-insert_run.ensures.gains.widths number,
    ) in
    rw c.in_ok-insert.ensures.ok
    (filling_more c.args.problem.now _ _ _ number _ c.points-points.ensures.value universal c.loop-number.invariant
    (gains_weaker _ _ (λ r e h. (h.0, omega (arith, h.1.1, some))) _ _ c.in_ok-insert_run.ensures.gains)
    (λ e h. c.in_ok-insert_run.ensures.covers e (omega arith, omega (arith, h))) within below)
