use Rattle.std.proofs.Common.{◌<◌, length, refl, arith}
use Rattle.std.proofs.lemmas.Result.{IfOk-from_err}
use Rattle.nll_core.proofs.SearchLemmas.{flag_within}
use Rattle.nll_core.proofs.WalkingLemmas.{filling_none, filling_more, filling_end}
use Rattle.nll_core.proofs.ListingLemmas.{lists_none, lists_gaps, lists_append}
use Rattle.nll_core.proofs.stretches.fill_from.Goals as goal
use Rattle.nll_core.proofs.stretches.fill_from.Goals.{In-Some}

-- the run is of elements of the set
within : (c : In-Some) → c.in-Some.run'.last < length c.args.sub.now
within c =
    flag_within c.args.sub.now _ (c.in-Some.ensures.some.all c.in-Some.run'.last c.in-Some.ensures.some.proper
    (omega arith))

pub loop-run-init : goal.loop-run-init
loop-run-init c =
    (filling_none c.args.sub.now c.args.from c.args.reached.now, lists_none c.args.reached.now c.args.list.now.items)

pub gaps-requires-clause-below : goal.gaps-requires-clause-below
gaps-requires-clause-below c =
    omega (arith, within (goal.at.gaps-requires-clause-below c).In-Some, c.loop-run.invariant.0.width, c.requires.width)

pub insert_run-requires-clause-below : goal.insert_run-requires-clause-below
insert_run-requires-clause-below c =
    omega (
      arith,
      within (goal.at.insert_run-requires-clause-below c).In-Some,
      c.loop-run.invariant.0.width,
      c.requires.width,
    )

pub overflow_add-next : goal.overflow_add-next
overflow_add-next c = omega (arith, within (goal.at.overflow_add-next c).In-Some, c.requires.short)

pub loop-run-preserved : goal.loop-run-preserved
loop-run-preserved c =
    let some = c.in-Some.ensures.some in
    let fills = c.in_ok-insert_run.ensures.ok in (
      filling_more c.args.sub.now c.args.from c.args.reached.now c.loop-run.reached c.insert_run.new.self
          c.loop-run.next c.max.result c.in-Some.run'.last _ c.loop-run.invariant.0 refl refl
          (omega (arith, c.max.ensures)) (omega (arith, c.max.ensures, some.proper, some.reach))
          (λ x a b. some.all x (omega (arith, a, c.max.ensures)) b)
          (λ x a b. some.none x a (omega (arith, a, b, c.max.ensures))) fills,
      lists_append c.args.reached.now c.loop-run.reached c.insert_run.new.self _ _ _ c.loop-run.invariant.0.kept
          fills.kept c.loop-run.invariant.1 (lists_gaps _ _ _ _ _ c.in_ok-gaps.ensures.listed fills),
    )

pub returns-clause-fills : goal.returns-clause-fills
returns-clause-fills c =
    filling_end c.args.sub.now c.args.from c.args.reached.now c.loop-run.reached c.loop-run.next c.loop-run.invariant.0
    c.in_default.ensures.none

pub gaps-requires-clause-proper : goal.gaps-requires-clause-proper
gaps-requires-clause-proper c =
    omega (arith, c.max.ensures, c.in-Some.ensures.some.proper, c.in-Some.ensures.some.reach)

pub insert_run-requires-clause-proper : goal.insert_run-requires-clause-proper
insert_run-requires-clause-proper c =
    omega (arith, c.max.ensures, c.in-Some.ensures.some.proper, c.in-Some.ensures.some.reach)

pub loop-run-smaller : goal.loop-run-smaller
loop-run-smaller c =
    omega (arith, within (goal.at.loop-run-smaller c).In-Some, c.in-Some.ensures.some.reach)

pub returns-clause-lists : goal.returns-clause-lists
returns-clause-lists c = c.loop-run.invariant.1

pub returns-in_err-gaps : goal.returns-in_err-gaps
returns-in_err-gaps c =
    let back = c.from_residual in
    record { fills = IfOk-from_err back.result _ back.ensures.0; lists = IfOk-from_err back.result _ back.ensures.0 }

pub returns-in_err-insert_run : goal.returns-in_err-insert_run
returns-in_err-insert_run c =
    let back = c.from_residual-in_err-insert_run in
    record { fills = IfOk-from_err back.result _ back.ensures.0; lists = IfOk-from_err back.result _ back.ensures.0 }
