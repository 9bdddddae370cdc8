use Rattle.std.proofs.Common.{◌≡◌, ℕ, Contains, true, get_or, refl, subst, ap, sym, ◌∙◌, arith, ⊎_elim}
use Rattle.std.proofs.lemmas.Bool.{cases_eq}
use Rattle.std.proofs.lemmas.List.{get_or_default}
use Rattle.nll_sets.specs.ElementSet.{flag}
use Rattle.nll_core.specs.Outliving.{IsShorterOf}
use Rattle.nll_core.specs.Search.{AddsOfKind}
use Rattle.nll_core.proofs.SearchLemmas.{adds_append, adds_weaker}
use Rattle.nll_core.proofs.known_outlives.visit_shorter.Goals as goal
use Rattle.nll_core.proofs.known_outlives.visit_shorter.Goals.{After-fact-item}

-- the fact of a turn is one of the facts
listed : (g : _) (c : After-fact-item g)
    → Contains {X = ℕ × ℕ} c.args.facts.now (c.fact-item.result.0, c.fact-item.result.1)
listed g c = (c.loop-fact.fact-index, c.loop-fact-test.true, sym c.fact-item.is)

pub visit-requires : goal.visit-requires
visit-requires g c =
    let within = c.requires _ (c.fact-item.result.0, listed g (goal.at.visit-requires g c).After-fact-item) in
    omega (arith, within, c.loop-fact.invariant.adds.width, c.shorter.view_is)

pub loop-fact-preserved : goal.loop-fact-preserved
loop-fact-preserved g c =
    let facts = c.args.facts.now in
    let fact = c.fact-item.result in
    let contained = listed g (goal.at.loop-fact-preserved g c).After-fact-item in
    let step : AddsOfKind (IsShorterOf facts) c.loop-fact.search c.visit.new.self =
    adds_weaker _ _ (λ x h. (
      fact.0,
      subst (λ (y : ℕ). Contains {X = ℕ × ℕ} facts (fact.0, y))
          (sym c.shorter.view_is ∙ sym h) contained,
    )) _ _ c.in_ok-visit.ensures.adds
    in
    let is : (a b : ℕ) → get_or facts c.loop-fact.fact-index (a, b) ≡ (a, b) → ◌≡◌ {A = ℕ × ℕ} (a, b) fact =
    λ a b h. sym h ∙ (get_or_default facts c.loop-fact.fact-index (a, b) fact c.loop-fact-test.true
    ∙ sym c.fact-item.is)
    in
    record {
      adds = adds_append _ _ _ _ c.loop-fact.invariant.adds step;
      all = λ k a b l h. ⊎_elim
          (λ same. subst (λ (y : ℕ). flag c.visit.new.self.reached y ≡ true)
          (c.shorter.view_is ∙ sym (ap (λ (x : ℕ × ℕ). x.1)
          (is a b (subst (λ (n : ℕ). get_or facts n (a, b) ≡ (a, b)) same h)))) (c.in_ok-visit.ensures.all _ refl))
          (λ other. step.kept b (c.loop-fact.invariant.all k a b (omega arith) h))
          (cases_eq k c.loop-fact.fact-index);
    }

pub returns : goal.returns
returns g c = record {
  adds = c.loop-fact.invariant.adds;
  all = λ b h. c.loop-fact.invariant.all h.1.0 h.0 b (omega (arith, h.1.1)) h.1.2;
}
