use Rattle.std.proofs.Common.{◌≡◌, Contains, false, get_or, inr, sym, subst, ⊎_elim, ◌∙◌, arith}
use Rattle.std.proofs.lemmas.Bool.{cases_lt, false≢true}
use Rattle.std.proofs.lemmas.List.Elements.{Contains-get_or}
use Rattle.nll_sets.specs.ElementSet.{flag}
use Rattle.nll_problem.specs.Graph.{IsNext}
use Rattle.nll_core.proofs.SearchLemmas.{contains_at}
use Rattle.nll_core.proofs.frontiers.element_growth.is_next.Goals as goal

pub has-requires : goal.has-requires
has-requires c =
    let items = c.returns-point-items.result.now in
    let point = get_or items c.loop-point.point-index 0 in
    let below =
    c.returns-point-items.ensures.sound.returns_in_range point
    (subst (λ xs. Contains xs point) c.returns-point-items.ensures.value
    (Contains-get_or items c.loop-point.point-index 0 c.loop-point-test.true)) in
    omega (arith, below, c.requires.room)

pub returns-then-has-clause-yes : goal.returns-then-has-clause-yes
returns-then-has-clause-yes c = λ _.
    let items = c.returns-point-items.result.now in (
      get_or items c.loop-point.point-index 0,
      sym c.has.ensures ∙ c.if-has.true,
      inr (
        subst (λ xs. Contains xs (get_or items c.loop-point.point-index 0)) c.returns-point-items.ensures.value
            (Contains-get_or items c.loop-point.point-index 0 c.loop-point-test.true),
        (
          omega (arith, c.if-element-points.true, c.element.view_is, c.points-points.ensures.value),
          omega (arith, c.requires.element),
        ),
      ),
    )

-- nothing that is reached is a return point, and no other step leads to an end
pub returns-then-element-points-clause-no : goal.returns-then-element-points-clause-no
returns-then-element-points-clause-no c = λ x h step. ⊎_elim
    (λ next. absurd (let range = c.points-points.ensures.sound.edges_in_range x c.args.element next in
    omega (arith, range.1, c.if-element-points.true, c.element.view_is, c.points-points.ensures.value)))
    (λ back.
    let items = c.returns-point-items.result.now in
    let there = subst (λ xs. Contains xs x) (sym c.returns-point-items.ensures.value) back.0 in
    let out = c.loop-point.invariant there.0 (omega (arith, there.1, c.loop-point-test.false)) in
    absurd (false≢true (sym (subst (λ y. flag c.args.reached.now y ≡ false) (contains_at items x there) out) ∙ h)))
    step

pub returns-else-is_next_of-clause-no : goal.returns-else-is_next_of-clause-no
returns-else-is_next_of-clause-no c = λ x h step. ⊎_elim
    (λ next.
    let range = c.points-points.ensures.sound.edges_in_range x c.args.element next in
    let to = subst (IsNext c.args.graph.now x) (sym c.element.view_is) next in
    ⊎_elim
    (λ early. c.is_next_of-else-is_next_of.ensures.no x (omega arith) early h to)
    (λ late. absurd (false≢true (sym c.if-is_next_of.false
    ∙ c.is_next_of.ensures.no x late (omega (arith, range.0, c.points-points.ensures.value)) h to)))
    (cases_lt x c.saturating_sub-before.result))
    (λ back. absurd (let low = back.1.0 in
    omega (arith, low, c.if-element-points.false, c.element.view_is, c.points-points.ensures.value)))
    step
