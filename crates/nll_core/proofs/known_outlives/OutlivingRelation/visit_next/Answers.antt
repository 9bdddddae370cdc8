use Rattle.std.proofs.Common.{ℕ, List, Contains, subst, sym, ◌∙◌, inl, inr, ⊎_elim, arith}
use Rattle.std.proofs.lemmas.Result.{on_ok_weaker}
use Rattle.nll_core.proofs.SearchLemmas.{adds_weaker}
use Rattle.nll_core.proofs.known_outlives.OutlivingRelation.visit_next.Goals as goal

pub visit_shorter-requires : goal.visit_shorter-requires
visit_shorter-requires g c = λ b h.
    let fact = (c.facts_of.ensures (h.0, b)).0 h.1 in
    let range =
    c.outlives_facts-facts.ensures.sound.outlives_in_range h.0 b
    (subst (λ (xs : List (ℕ × ℕ)). Contains {X = ℕ × ℕ} xs (h.0, b)) c.outlives_facts-facts.ensures.value fact.0) in
    omega (arith, range.1, c.requires)

pub returns-then-from-eq0 : goal.returns-then-from-eq0
returns-then-from-eq0 g c = on_ok_weaker c.visit_below.result
    (λ visits. record {
      adds = adds_weaker _ _ (λ x h. inr (
        sym c.from.view_is ∙ c.if-from-eq0.true,
        omega (arith, h, c.universals.ensures.value),
      )) _ _ visits.adds;
      all = λ y step. visits.all y (⊎_elim
          (λ fact. omega (
            arith,
            (c.universals.ensures.sound.outlives_in_range c.args.from y fact).1,
            c.universals.ensures.value,
          ))
          (λ static. omega (arith, static.1, c.universals.ensures.value))
          step);
    })
    c.visit_below.ensures

pub returns-else-from-eq0 : goal.returns-else-from-eq0
returns-else-from-eq0 g c = on_ok_weaker c.visit_shorter.result
    (λ visits. record {
      adds = adds_weaker _ _ (λ b h.
          let fact = (c.facts_of.ensures (h.0, b)).0 h.1 in
          inl (subst (λ (xs : List (ℕ × ℕ)). Contains {X = ℕ × ℕ} xs (c.args.from, b))
          c.outlives_facts-facts.ensures.value
          (subst (λ (a : ℕ). Contains {X = ℕ × ℕ} c.outlives_facts-facts.result.now (a, b))
          (fact.1 ∙ c.from.view_is) fact.0))) _ _ visits.adds;
      all = λ y step. ⊎_elim
          (λ fact. visits.all y (
            c.args.from,
            (c.facts_of.ensures (c.args.from, y)).1 (
              subst (λ (xs : List (ℕ × ℕ)). Contains {X = ℕ × ℕ} xs (c.args.from, y))
                  (sym c.outlives_facts-facts.ensures.value) fact,
              sym c.from.view_is,
            ),
          ))
          (λ static. absurd (c.if-from-eq0.false (c.from.view_is ∙ static.0)))
          step;
    })
    c.visit_shorter.ensures
