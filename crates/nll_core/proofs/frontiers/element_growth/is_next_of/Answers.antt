use Rattle.std.proofs.Common.{Contains, sym, subst, ⊎_elim, ◌≡◌, ◌∙◌, arith}
use Rattle.std.proofs.lemmas.Bool.{cases_lt, false≢true}
use Rattle.std.proofs.lemmas.List.Elements.{Contains-get_or}
use Rattle.nll_problem.specs.Graph.{IsNext}
use Rattle.nll_core.proofs.SearchLemmas.{contains_at}
use Rattle.nll_core.proofs.frontiers.element_growth.is_next_of.Goals as goal

pub returns-then-successor-point-clause-yes : goal.returns-then-successor-point-clause-yes
returns-then-successor-point-clause-yes c = λ _. (
  c.found.inside.0,
  rw c.found.view_is c.in-Some.ensures.found,
  (c.next_of-successor-items.ensures.each c.args.point).0
      (subst (Contains c.next_of-successor-items.result.now) c.if-successor-point.true
      (Contains-get_or c.next_of-successor-items.result.now c.loop-successor.successor-index 0
      c.loop-successor-test.true)),
)

pub loop-found-preserved : goal.loop-found-preserved
loop-found-preserved c = λ x low high here next. ⊎_elim
    (λ early. c.loop-found.invariant x low early here next)
    (λ from. ⊎_elim
    (λ before. false≢true (sym (c.in-Some.ensures.least x from (omega (arith, before, c.found.view_is))) ∙ here))
    (λ past.
    let same : x ≡ c.found.inside.0 = omega (arith, past, high) in
    let there = (c.next_of-successor-items.ensures.each c.args.point).1
    (subst (λ y. IsNext c.args.graph.now y c.args.point) same next) in
    c.loop-successor.invariant there.0 (omega (arith, there.1, c.loop-successor-test.false))
    (contains_at c.next_of-successor-items.result.now c.args.point there))
    (cases_lt x c.found.inside.0))
    (cases_lt x c.loop-found.next)
