use Rattle.std.proofs.Common.{◌≡◌, ◌+◌, ℕ, inl, subst, arith}
use Rattle.nll_problem.specs.Graph.{IsNext}
use Rattle.nll_problem.specs.Walks.{Reaches}
use Rattle.nll_problem.proofs.WalkLemmas.{reaches_first, reaches_more}
use Rattle.nll_core.specs.Search.{IsIn}
use Rattle.nll_core.specs.Walking.{IsLedTo}
use Rattle.nll_core.proofs.ResumeLemmas.{next_inside, next_more, next_end}
use Rattle.nll_core.proofs.WalkingLemmas.{grows_none, grows_weaker, reaches_append}
use Rattle.nll_core.proofs.frontiers.continuation.enter_next.Goals as goal
use Rattle.nll_core.proofs.frontiers.continuation.enter_next.Goals.{then-line_end-last+in_ok-enter_point, else-line_end-last}

pub loop-last-preserved : goal.loop-last-preserved
loop-last-preserved c =
    let g = c.args.lines.now in
    let set = c.args.seen.now in
    let last = c.in-Some.last in
    elim c.if-line_end-last.branch [
      | then-line_end-last+in_ok-enter_point w ↦
          rw (w.reached-is, w.found-is) (next_more g set c.args.part c.args.reached.now c.args.found.now.items
          c.loop-last.reached _ c.loop-last.found.items _ c.loop-last.from last
          c.requires.inside c.in-Some.ensures.bounds.0 c.in-Some.ensures.before c.loop-last.invariant
          (grows_weaker g set (Reaches g (IsIn set) (last + 1)) (IsLedTo g set c.loop-last.reached)
          (λ x way. (
            last,
            c.in-Some.ensures.reached,
            reaches_append g set last (last + 1) x
                (reaches_more g (IsIn set) last last (last + 1) (reaches_first g (IsIn set) last
                (next_inside g set c.args.part c.args.reached.now c.args.found.now.items
                c.loop-last.reached c.loop-last.found.items c.loop-last.from c.requires.inside c.loop-last.invariant _
                c.in-Some.ensures.reached))
                (inl (c.line_end.ensures.line last (omega arith) (omega (arith, w.if-line_end-last.true))))
                (c.requires.part (last + 1) (
                  omega (arith, c.in-Some.ensures.bounds, c.loop-last.invariant.low),
                  omega (arith, c.in-Some.ensures.bounds),
                ))) way,
          ))
          _ _ _ _ w.in_ok-enter_point.ensures.grows)
          (λ _. w.in_ok-enter_point.ensures.covers))
      | else-line_end-last w ↦
          rw (w.reached-is, w.found-is) (next_more g set c.args.part c.args.reached.now c.args.found.now.items
          c.loop-last.reached _ c.loop-last.found.items _ c.loop-last.from last
          c.requires.inside c.in-Some.ensures.bounds.0 c.in-Some.ensures.before c.loop-last.invariant
          (grows_none g set (IsLedTo g set c.loop-last.reached) c.loop-last.reached c.loop-last.found.items)
          (λ next.
          let same : ◌≡◌ {A = ℕ} last c.line_end.result =
          omega (arith, c.line_end.ensures.above, w.if-line_end-last.false) in
          absurd (c.line_end.ensures.last (subst (λ y. IsNext g y (y + 1)) same next))))
    ]

pub returns-clause-covers : goal.returns-clause-covers
returns-clause-covers c =
    next_end c.args.lines.now c.args.seen.now c.args.part c.args.reached.now c.args.found.now.items c.loop-last.reached
    c.loop-last.found.items c.loop-last.from c.in_default.ensures.none c.loop-last.invariant
