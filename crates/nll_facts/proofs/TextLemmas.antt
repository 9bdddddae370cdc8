-- The last line that a facts text needs.
use Rattle.std.proofs.Common.{◌≡◌, ℕ, suc, zero, ◌<◌, ◌≤◌, max, get_or, Contains, ⊎_elim, List, [], ◌∷◌, ◌⊎◌, inl, inr, length, refl, ap, arith}
use Rattle.std.proofs.lemmas.Bool.{cases_eq}
use Rattle.nll_facts.specs.FactsForms.{FactsForm, end}
use Rattle.nll_facts.specs.FactsSaid.{facts_group, last_fact_group}

-- the group of each line is reached
group_reached : (forms : List FactsForm) (f : FactsForm) (k : ℕ) → k < length forms → get_or forms k f ≡ f
    → facts_group f ≤ last_fact_group forms
group_reached [] f k h e = absurd (omega arith)
group_reached (g ∷ forms) f zero h e = omega (arith, ap facts_group e)
group_reached (g ∷ forms) f (suc k) h e = omega (arith, group_reached forms f k (omega arith) e)

group_end : (f : FactsForm) → facts_group f ≡ 6 → f ≡ end
group_end end h = refl
group_end _ h = absurd (omega arith)

group_most : (f : FactsForm) → facts_group f ≤ 6
group_most end = omega arith
group_most _ = omega arith

reached_most : (forms : List FactsForm) → last_fact_group forms ≤ 6
reached_most [] = omega arith
reached_most (f ∷ forms) = omega (arith, group_most f, reached_most forms)

-- the lines have an `end` line where the last group is reached
pub ended : (forms : List FactsForm) → last_fact_group forms ≡ 6 → Contains forms end
ended [] h = absurd (omega arith)
ended (f ∷ forms) h = ⊎_elim
    (λ here. (0, omega arith, group_end f here))
    (λ later. let c = ended forms later in (suc c.0, omega (arith, c.1), c.2))
    (either (facts_group f) (last_fact_group forms) h (group_most f) (reached_most forms))
  where
    either : (a b : ℕ) → max a b ≡ 6 → a ≤ 6 → b ≤ 6 → (a ≡ 6) ⊎ (b ≡ 6)
    either a b e p q = ⊎_elim (λ same. inl same) (λ other. inr (omega arith)) (cases_eq a 6)

-- the last group is reached where there is an `end` line
pub end_reached : (forms : List FactsForm) → Contains forms end → last_fact_group forms ≡ 6
end_reached forms c = omega (arith, group_reached forms end c.0 c.1 c.2, reached_most forms)
