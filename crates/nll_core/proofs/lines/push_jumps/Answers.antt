use Rattle.std.proofs.Common.{◌≡◌, ◌≢◌, ◌↔◌, ◌∙◌, ◌+◌, Contains, true, refl, sym, arith}
use Rattle.std.proofs.lemmas.Bool.{false≢true}
use Rattle.nll_problem.specs.Graph.{IsNext}
use Rattle.nll_core.specs.Lines.{Pushes}
use Rattle.nll_core.proofs.JumpLemmas.{AmongFirst, pushes_none, pushes_more, pushes_same, among_first_none, among_first_more, among_first_skip, among_all, is_among_all, is_among_here, is_among_other, jumps_others, jumps_return}
use Rattle.nll_core.proofs.lines.push_jumps.Goals as goal
use Rattle.nll_core.proofs.lines.push_jumps.Goals.{After-loop-successor, then-successor-point, else-successor-point+in_ok-push}

pub loop-successor-init : goal.loop-successor-init
loop-successor-init c = (
  pushes_none _ _ (among_first_none c.next_of-successor-items.result.now (c.args.point + 1)),
  (λ h. absurd (false≢true h), λ (k, l, is). absurd (omega (arith, l))),
)

pub loop-successor-preserved : goal.loop-successor-preserved
loop-successor-preserved c =
    let all = c.next_of-successor-items.result.now in
    let index = c.loop-successor.successor-index in
    elim c.if-successor-point.branch [
      | then-successor-point w ↦ rw w.targets-is (rw w.goes_on-is (
        pushes_same (AmongFirst all (c.args.point + 1) index) _ _ _
            (among_first_skip all (c.args.point + 1) index w.if-successor-point.true) c.loop-successor.invariant.0,
        is_among_here all index (c.args.point + 1) w.if-successor-point.true,
      ))
      | else-successor-point+in_ok-push w ↦ rw w.targets-is (rw w.goes_on-is (rw w.in_ok-push.ensures.items (
        pushes_more (AmongFirst all (c.args.point + 1) index) _ _ _ _
            (among_first_more all (c.args.point + 1) index _ refl w.if-successor-point.false)
            c.loop-successor.invariant.0,
        is_among_other all index (c.args.point + 1) _ w.if-successor-point.false c.loop-successor.invariant.1,
      )))
    ]

-- the successors but the next point of the line are pushed
others : (c : After-loop-successor) → Pushes
    (λ t. Contains c.next_of-successor-items.result.now t × (t ≢ c.args.point + 1))
    c.args.targets.now.items c.loop-successor.targets.items
others c =
    pushes_same (AmongFirst c.next_of-successor-items.result.now (c.args.point + 1) c.loop-successor.successor-index)
    _ _ _ (among_all c.next_of-successor-items.result.now (c.args.point + 1) c.loop-successor.successor-index
    c.loop-successor-test.false c.loop-successor.auto.successor-index-end) c.loop-successor.invariant.0

-- the line goes on where the next point is a successor
line : (c : After-loop-successor)
    → (c.loop-successor.goes_on ≡ true) ↔ IsNext c.args.graph.now c.args.point (c.args.point + 1)
line c =
    let all =
    is_among_all c.next_of-successor-items.result.now c.loop-successor.successor-index
    (c.args.point + 1) c.loop-successor-test.false c.loop-successor.auto.successor-index-end in
    let next = c.next_of-successor-items.ensures.each (c.args.point + 1) in (
      λ h. next.0 (all.0 (c.loop-successor.invariant.1.0 h)),
      λ h. c.loop-successor.invariant.1.1 (all.1 (next.1 h)),
    )

pub returns-in_ok-push-2-clause-jumps : goal.returns-in_ok-push-2-clause-jumps
returns-in_ok-push-2-clause-jumps c = rw c.in_ok-push-2.ensures.items
    (jumps_return c.args.graph.now c.args.point c.next_of-successor-items.result.now
    c.next_of-successor-items.ensures.each _ _ c.points.result c.points.ensures.value
    (c.is_return.ensures.0 c.if-is_return.true)
    (others (goal.at.returns-in_ok-push-2-clause-jumps c).After-loop-successor))

pub returns-else-is_return-clause-jumps : goal.returns-else-is_return-clause-jumps
returns-else-is_return-clause-jumps c =
    jumps_others c.args.graph.now c.args.point c.next_of-successor-items.result.now
    c.next_of-successor-items.ensures.each _ _
    (λ h. false≢true (sym c.if-is_return.false ∙ c.is_return.ensures.1 h))
    (others (goal.at.returns-else-is_return-clause-jumps c).After-loop-successor)

pub returns-in_ok-push-2-clause-line : goal.returns-in_ok-push-2-clause-line
returns-in_ok-push-2-clause-line c = line (goal.at.returns-in_ok-push-2-clause-line c).After-loop-successor

pub returns-else-is_return-clause-line : goal.returns-else-is_return-clause-line
returns-else-is_return-clause-line c = line (goal.at.returns-else-is_return-clause-line c).After-loop-successor
