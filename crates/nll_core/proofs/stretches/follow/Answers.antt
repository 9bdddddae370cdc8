use Rattle.std.proofs.Common.{◌≡◌, ◌≤◌, ◌<◌, get_or, arith, true, refl}
use Rattle.nll_problem.specs.Walks.{Reaches}
use Rattle.nll_core.proofs.SearchLemmas.{contains_from, covers_contained}
use Rattle.nll_core.specs.Search.{IsIn}
use Rattle.nll_core.proofs.WalkingLemmas.{grows_none, following_more, following_end, jump_to_ends}
use Rattle.nll_core.proofs.stretches.follow.Goals as goal
use Rattle.nll_core.proofs.stretches.follow.Goals.{then-target-points, else-target-points+then-target-known+in_ok-known, else-target-points+else-target-known+else-known-target}

pub go_to-requires-clause-widths : goal.go_to-requires-clause-widths
go_to-requires-clause-widths c = omega (arith, c.loop-target.invariant.0.grows.width, c.requires.widths)

pub loop-target-preserved : goal.loop-target-preserved
loop-target-preserved c = elim c.if-target-points.branch [
  | then-target-points w ↦ rw w.reached-is (rw w.todo-is (rw w.ends-is (rw w.known-is (
    following_end _ _ c.args.run c.jumps-target-items.result.now _ _ _ _ _ c.loop-target.target-index _ refl
        c.loop-target-test.true (omega (arith, w.if-target-points.true, c.points-points.ensures.value))
        c.loop-target.invariant.0,
    c.loop-target.invariant.1,
  ))))
  | else-target-points+then-target-known+in_ok-known w ↦ rw w.reached-is (rw w.todo-is (rw w.ends-is (rw w.known-is (
    following_more _ _ c.args.run c.jumps-target-items.result.now _ _ _ _ _ _ _ c.loop-target.target-index _ refl
        c.loop-target-test.true (omega (arith, w.if-target-points.false, c.points-points.ensures.value))
        (λ x h. (c.jumps-target-items.ensures x).0 h)
        (contains_from _ _ c.loop-target.target-index c.loop-target-test.true refl) c.loop-target.invariant.0
        w.in_ok-known.ensures.grows w.in_ok-known.ensures.covers,
    w.in_ok-known.ensures.known,
  ))))
  | else-target-points+else-target-known+else-known-target w ↦
      rw w.reached-is (rw w.todo-is (rw w.ends-is (rw w.known-is (
        following_more _ _ c.args.run c.jumps-target-items.result.now _ _ _ _ _ _ _ c.loop-target.target-index _ refl
            c.loop-target-test.true (omega (arith, w.if-target-points.false, c.points-points.ensures.value))
            (λ x h. (c.jumps-target-items.ensures x).0 h)
            (contains_from _ _ c.loop-target.target-index c.loop-target-test.true refl) c.loop-target.invariant.0
            (grows_none _ _ (Reaches c.args.lines.now (IsIn c.args.sub.now)
            (get_or c.jumps-target-items.result.now c.loop-target.target-index 0)) c.loop-target.reached
            c.loop-target.todo.items)
            (λ _. c.loop-target.invariant.1 _ (w.if-target-known.false, w.if-known-target.false)),
        c.loop-target.invariant.1,
      ))))
]

pub returns-clause-covers : goal.returns-clause-covers
returns-clause-covers c = λ x within t jump point in_sub.
    let there = (c.jumps-target-items.ensures t).1 (x, within, jump) in
    covers_contained (λ t. t < c.args.lines.now.points → IsIn c.args.sub.now t → IsIn c.loop-target.reached t)
    c.jumps-target-items.result.now (λ k l.
    c.loop-target.invariant.0.covers k (omega (arith, l, c.loop-target-test.false))) t there point in_sub

pub returns-clause-ends : goal.returns-clause-ends
returns-clause-ends c = (
  λ e. let w = c.loop-target.invariant.0.ends_found e in
      let t = get_or c.jumps-target-items.result.now w.0 0 in
      let from = (c.jumps-target-items.ensures t).0 (contains_from _ t w.0 w.2 refl) in
      (from.0, from.1, jump_to_ends _ c.args.sub.now c.points-points.ensures.sound from.0 t w.3 from.2),
  λ jump.
      let there = (c.jumps-target-items.ensures c.args.lines.now.points).1 jump in
      covers_contained (λ t. c.args.lines.now.points ≤ t → c.loop-target.ends ≡ true) c.jumps-target-items.result.now
      (λ k l. c.loop-target.invariant.0.ends_seen k (omega (arith, l, c.loop-target-test.false))) _ there
      (omega arith),
)
