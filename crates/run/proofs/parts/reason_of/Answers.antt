use Rattle.std.proofs.Common.{◌+◌, map, sym, subst, arith}
use Rattle.fixpoint.specs.declared.ending.Ending.{Ending}
use Rattle.worker.specs.Finishing.{WasStarted}
use Rattle.run.specs.Refusing.{IsCalm, IsOutOfMemory}
use Rattle.run.proofs.PlaceLemmas.{item_at, map_place, map_size}
use Rattle.run.proofs.ReasonLemmas.{IsReasonSoFar, calm_step, memory_step, whole_reason}
use Rattle.run.proofs.parts.reason_of.Goals as goal
use Rattle.run.proofs.parts.reason_of.Goals.{in-Memory, in-NoOwner, in-Stray, in-Stopped, in-Quiet}

pub loop-done-preserved : goal.loop-done-preserved
loop-done-preserved g c =
    let all = map (λ d. d.ending) c.args.finished.now in
    let n = c.loop-done.done-index in
    let e : Ending = c.done-item.result.ending in
    let at =
    map_place (λ d. d.ending) c.args.finished.now n c.done-item.result
    (item_at c.args.finished.now n c.done-item.result c.loop-done-test.true c.done-item.is) in
    let calm = λ (is : IsCalm e). calm_step all n e c.loop-done.reason at is c.loop-done.invariant in
    let out = λ (is : IsOutOfMemory e). memory_step all n e c.loop-done.reason at is c.loop-done.invariant in
    let step : IsReasonSoFar all (n + 1) c.match-done.reason = elim c.match-done.branch [
      | in-Memory w ↦ subst (IsReasonSoFar all (n + 1)) (sym w.reason-is)
          (out (subst (λ (y : Ending). IsOutOfMemory y) (sym w.in-Memory.is) tt))
      | in-NoOwner w ↦ subst (IsReasonSoFar all (n + 1)) (sym w.reason-is)
          (out (subst (λ (y : Ending). IsOutOfMemory y) (sym w.in-NoOwner.is) tt))
      | in-Stray w ↦ subst (IsReasonSoFar all (n + 1)) (sym w.reason-is)
          (calm (subst (λ (y : Ending). IsCalm y) (sym w.in-Stray.is) tt))
      | in-Stopped w ↦ subst (IsReasonSoFar all (n + 1)) (sym w.reason-is)
          (calm (subst (λ (y : Ending). IsCalm y) (sym w.in-Stopped.is) tt))
      | in-Quiet w ↦ subst (IsReasonSoFar all (n + 1)) (sym w.reason-is)
          (calm (subst (λ (y : Ending). IsCalm y) (sym w.in-Quiet.is) tt))
    ] in
    step

pub returns : goal.returns
returns g c =
    let all = map (λ d. d.ending) c.args.finished.now in
    whole_reason all c.loop-done.done-index c.loop-done.reason
    (let s = map_size (λ d. d.ending) c.args.finished.now in omega (arith, s, c.loop-done-test.false))
    c.loop-done.invariant

pub returns-in-Forbidden : goal.returns-in-Forbidden
returns-in-Forbidden g c =
    let at =
    map_place (λ d. d.ending) c.args.finished.now c.loop-done.done-index c.done-item.result
    (item_at c.args.finished.now c.loop-done.done-index c.done-item.result c.loop-done-test.true c.done-item.is) in (
      c.loop-done.done-index,
      c.done-item.result.ending,
      at,
      λ started. subst (λ (y : Ending). WasStarted y) c.in-Forbidden.is started,
    )

pub returns-in-Unstarted : goal.returns-in-Unstarted
returns-in-Unstarted g c =
    let at =
    map_place (λ d. d.ending) c.args.finished.now c.loop-done.done-index c.done-item.result
    (item_at c.args.finished.now c.loop-done.done-index c.done-item.result c.loop-done-test.true c.done-item.is) in (
      c.loop-done.done-index,
      c.done-item.result.ending,
      at,
      λ started. subst (λ (y : Ending). WasStarted y) c.in-Unstarted.is started,
    )
