use Rattle.std.proofs.Common.{◌≤◌, length, arith}
use Rattle.nll_types.proofs.FailLemmas.{failed}
use Rattle.nll_types.proofs.ShapingLemmas.{grows_same, grows_then}
use Rattle.nll_types.proofs.WayLemmas.{way_starts, way_on, way_ends, way_at, way_small}
use Rattle.nll_types.proofs.type_table.TypeTable.place_shape.Goals as goal

pub returns-in-None-clause-at : goal.returns-in-None-clause-at
returns-in-None-clause-at c = λ t e.
    let on = c.loop-projection.invariant in
    let ends = rw (c.in-None.is, on.0.structs) at c.in_ok-next.ensures.at in
    way_ends _ _ _ c.args.projections.now c.loop-projection.projection-index c.args.from c.loop-projection.number _
    c.loop-projection.small t
    c.loop-projection-test.true on.1 ends e

pub returns-clause-at : goal.returns-clause-at
returns-clause-at c = λ t e.
    let past : length c.args.projections.now ≤ c.loop-projection.projection-index = omega arith in
    way_at _ _ _ c.args.projections.now c.loop-projection.projection-index c.args.from c.loop-projection.number
    c.loop-projection.small t past c.loop-projection.invariant.1 e

pub returns-clause-small : goal.returns-clause-small
returns-clause-small c = λ t e.
    let past : length c.args.projections.now ≤ c.loop-projection.projection-index = omega arith in
    let told = rw c.shapes-2.ensures at c.is_small-here-2.ensures in
    rw told (way_small _ _ _ c.args.projections.now c.loop-projection.projection-index c.args.from
    c.loop-projection.number c.loop-projection.small t past c.loop-projection.invariant.1 e)

pub returns-in_err-next-clause-within : goal.returns-in_err-next-clause-within
returns-in_err-next-clause-within c = failed c.from_residual.result _ _ c.from_residual.ensures.1

pub returns-in_err-next-clause-at : goal.returns-in_err-next-clause-at
returns-in_err-next-clause-at c = failed c.from_residual.result _ _ c.from_residual.ensures.1

pub returns-in_err-next-clause-small : goal.returns-in_err-next-clause-small
returns-in_err-next-clause-small c = failed c.from_residual.result _ _ c.from_residual.ensures.1

pub returns-in-None-clause-within : goal.returns-in-None-clause-within
returns-in-None-clause-within c = tt

pub returns-in-None-clause-small : goal.returns-in-None-clause-small
returns-in-None-clause-small c = tt

pub returns-in_err-next-clause-grows : goal.returns-in_err-next-clause-grows
returns-in_err-next-clause-grows c = grows_then _ _ _ c.loop-projection.invariant.0 c.behind.ensures.grows

pub returns-in-None-clause-grows : goal.returns-in-None-clause-grows
returns-in-None-clause-grows c = grows_then _ _ _ c.loop-projection.invariant.0 c.behind.ensures.grows

pub returns-clause-within : goal.returns-clause-within
returns-clause-within c = c.loop-projection.invariant.1.within

pub returns-clause-grows : goal.returns-clause-grows
returns-clause-grows c = c.loop-projection.invariant.0

pub loop-projection-init : goal.loop-projection-init
loop-projection-init c = (grows_same _, way_starts _ _ _ _ c.requires)

pub loop-projection-preserved : goal.loop-projection-preserved
loop-projection-preserved c =
    let on = c.loop-projection.invariant in
    let here = rw c.shapes.ensures at c.is_small-here.ensures in
    let next = rw (c.in-Some.is, on.0.structs) at c.in_ok-next.ensures.at in
    let within = rw c.in-Some.is at c.in_ok-next.ensures.within in (
      grows_then _ _ _ on.0 c.behind.ensures.grows,
      rw here
          (way_on _ _ _ _ c.args.projections.now c.loop-projection.projection-index c.args.from c.loop-projection.number
          c.in-Some.next _ c.loop-projection.small
          c.loop-projection-test.true on.1 within next),
    )

pub behind-requires : goal.behind-requires
behind-requires c = c.loop-projection.invariant.1.within
