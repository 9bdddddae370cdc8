use Rattle.std.proofs.Common.{◌<◌, List, ◌++◌, ℕ, Contains, length, ap, ◌∙◌, arith, map, subst}
use Rattle.nll_body.specs.Effects.{variables_used}
use Rattle.nll_live.specs.Gathering.{AreListed}
use Rattle.nll_live.specs.Live.{UsesAt}
use Rattle.nll_live.proofs.GatheringLemmas.{listed_step, lists_as, uses_are}
use Rattle.nll_live.proofs.points_by_variable.uses_by_variable.Goals as goal

pub loop-point-preserved : goal.loop-point-preserved
loop-point-preserved c =
    let within : c.loop-point.point < length c.args.body.now.points =
    omega (arith, c.loop-point-test.true, c.points-point-end.ensures.value) in
    listed_step (length c.args.body.now.variables)
    (UsesAt c.args.body.now) c.loop-point.point _ _ c.loop-point.invariant
    (lists_as (Contains c.as_slice.result.now) (λ x. UsesAt c.args.body.now x c.loop-point.point) c.loop-point.point _ _
    (uses_are c.args.body.now c.loop-point.point within c.as_slice.result.now
    (λ i at. c.as_slice.ensures.value ∙
    (c.in_ok-uses.ensures.ok i at ∙ ap (λ (xs : List ℕ). xs ++ variables_used i) c.clear.ensures.items)))
    c.in_ok-list_at_all.ensures)

pub returns : goal.returns
returns c =
    subst (λ (n : ℕ). AreListed (length c.args.body.now.variables) (UsesAt c.args.body.now) n
    (map (λ list. list.items) c.loop-point.lists.items))
    (omega (arith, c.points-point-end.ensures.value)) c.loop-point.invariant
