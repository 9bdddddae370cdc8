use Rattle.std.proofs.Common.{◌≡◌, ◌<◌, length, arith, ℕ, map, subst}
use Rattle.nll_live.specs.Gathering.{AreListed}
use Rattle.nll_live.specs.Live.{DropsAt}
use Rattle.nll_live.proofs.GatheringLemmas.{drop_is, listed_step, lists_as, lists_none, no_drop}
use Rattle.nll_live.proofs.points_by_variable.drops_by_variable.Goals as goal

pub loop-point-preserved-in_default : goal.loop-point-preserved-in_default
loop-point-preserved-in_default c =
    let within : c.loop-point.point < length c.args.body.now.points =
    omega (arith, c.loop-point-test.true, c.points-point-end.ensures.value) in
    listed_step (length c.args.body.now.variables)
    (DropsAt c.args.body.now) c.loop-point.point _ _ c.loop-point.invariant
    (lists_none (λ x. DropsAt c.args.body.now x c.loop-point.point) c.loop-point.point _
    (λ x h. no_drop c.args.body.now c.loop-point.point within c.in_default.ensures x))

pub loop-point-preserved : goal.loop-point-preserved
loop-point-preserved c =
    let within : c.loop-point.point < length c.args.body.now.points =
    omega (arith, c.loop-point-test.true, c.points-point-end.ensures.value) in
    listed_step (length c.args.body.now.variables)
    (DropsAt c.args.body.now) c.loop-point.point _ _ c.loop-point.invariant
    (lists_as (λ x. x ≡ c.in-Some.variable) (λ x. DropsAt c.args.body.now x c.loop-point.point) c.loop-point.point _ _
    (drop_is c.args.body.now c.loop-point.point within c.in-Some.variable c.in-Some.ensures)
    c.in_ok-list_at.ensures.lists)

pub returns : goal.returns
returns c =
    subst (λ (n : ℕ). AreListed (length c.args.body.now.variables) (DropsAt c.args.body.now) n
    (map (λ list. list.items) c.loop-point.lists.items))
    (omega (arith, c.points-point-end.ensures.value)) c.loop-point.invariant
