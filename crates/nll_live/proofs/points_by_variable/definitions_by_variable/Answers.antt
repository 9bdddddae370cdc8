use Rattle.std.proofs.Common.{◌≡◌, ◌+◌, ◌<◌, length, map, sym, arith}
use Rattle.nll_live.specs.Live.{DefinesAt}
use Rattle.nll_live.proofs.GatheringLemmas.{ascend_first, ascend_later, definition_is, definitions_listed, listed_first}
use Rattle.nll_live.proofs.GatheringLemmas.{listed_step, lists_as, lists_none, no_definition}
use Rattle.nll_live.proofs.points_by_variable.definitions_by_variable.Goals as goal

pub loop-point-init : goal.loop-point-init
loop-point-init c =
    rw (c.in_ok-lists.ensures, c.variables.ensures.value) (record {
      listed = listed_first (length c.args.body.now.variables) (DefinesAt c.args.body.now);
      ascending = ascend_first (length c.args.body.now.variables);
    })

pub loop-point-preserved-in_default : goal.loop-point-preserved-in_default
loop-point-preserved-in_default c =
    let within : c.loop-point.point < length c.args.body.now.points =
    omega (arith, c.loop-point-test.true, c.points-point-end.ensures.value) in
    record {
      listed =
          listed_step (length c.args.body.now.variables)
          (DefinesAt c.args.body.now) c.loop-point.point _ _ c.loop-point.invariant.listed
          (lists_none (λ x. DefinesAt c.args.body.now x c.loop-point.point) c.loop-point.point _
          (λ x h. no_definition c.args.body.now c.loop-point.point within c.in_default.ensures x));
      ascending =
          ascend_later c.loop-point.point (c.loop-point.point + 1) (map (λ list. list.items) c.loop-point.lists.items)
          (omega arith) c.loop-point.invariant.ascending;
    }

pub loop-point-preserved : goal.loop-point-preserved
loop-point-preserved c =
    let within : c.loop-point.point < length c.args.body.now.points =
    omega (arith, c.loop-point-test.true, c.points-point-end.ensures.value) in
    record {
      listed =
          listed_step (length c.args.body.now.variables)
          (DefinesAt c.args.body.now) c.loop-point.point _ _ c.loop-point.invariant.listed
          (lists_as (λ x. x ≡ c.in-Some.variable) (λ x. DefinesAt c.args.body.now x c.loop-point.point)
          c.loop-point.point _ _
          (λ x.
          let is = definition_is c.args.body.now c.loop-point.point within c.in-Some.variable c.in-Some.ensures x in
          (λ h. is.0 (sym h), λ h. sym (is.1 h)))
          c.in_ok-list_at.ensures.lists);
      ascending = c.in_ok-list_at.ensures.ascending c.loop-point.invariant.ascending;
    }

pub returns : goal.returns
returns c =
    definitions_listed c.args.body.now c.loop-point.point _
    (omega (arith, c.points-point-end.ensures.value)) c.loop-point.invariant.listed c.loop-point.invariant.ascending
