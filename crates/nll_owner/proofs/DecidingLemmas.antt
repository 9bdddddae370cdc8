-- Whether something is told can be decided; so what is left of a region is a set by a test.
use Rattle.std.proofs.Common.{◌≡◌, ◌⊎◌, ⊎_elim, ℕ, ◌≤◌, Bool, true, false, List, [], ◌∷◌, Contains, refl, inl, inr, arith}
use Rattle.std.proofs.lemmas.Bool.{cases_eq, cases_lt, false≢true}
use Rattle.nll_mail.specs.declared.growth.Growth.{Growth}
use Rattle.nll_owner.specs.Following.{OfRun}
use Rattle.nll_owner.specs.Logs.{IsTold}
use Rattle.nll_owner.specs.RegionRuns.{IsToldByRuns}
use Rattle.nll_owner.specs.declared.region_runs.RegionRun.{RegionRun}
use Rattle.fixpoint.proofs.ListLemmas.{contains_head, contains_tail, contains_cases}

-- it holds, or it doesn't
abbrev pub Decided : Type 0 → Type 0
Decided P = P ⊎ (P → ⊥)

pub both : (P Q : Type 0) → Decided P → Decided Q → Decided (P × Q)
both P Q (inl p) (inl q) = inl (p, q)
both P Q (inl p) (inr lacks) = inr (λ w. lacks w.1)
both P Q (inr lacks) d = inr (λ w. lacks w.0)

pub either : (P Q : Type 0) → Decided P → Decided Q → Decided (P ⊎ Q)
either P Q (inl p) d = inl (inl p)
either P Q (inr lacks) (inl q) = inl (inr q)
either P Q (inr lacks) (inr never) = inr (λ w. ⊎_elim lacks never w)

pub equal : (x y : ℕ) → Decided (x ≡ y)
equal x y = cases_eq x y

pub at_most : (x y : ℕ) → Decided (x ≤ y)
at_most x y = ⊎_elim (λ above. inr (λ low. omega (arith, above, low))) (λ low. inl low) (cases_lt y x)

-- whether an element of a list is of a kind
some : {X : Type 0} (P : X → Type 0) → ((x : X) → Decided (P x)) → (xs : List X)
    → Decided ((x : X) × Contains xs x × P x)
some P each [] = inr (λ w. omega (arith, w.1.1))
some {X} P each (x ∷ xs) = go (each x) (some P each xs)
  where
    go : Decided (P x) → Decided ((y : X) × Contains xs y × P y) → Decided ((y : X) × Contains (x ∷ xs) y × P y)
    go (inl p) d = inl (x, contains_head x xs, p)
    go (inr lacks) (inl w) = inl (w.0, contains_tail x xs w.0 w.1, w.2)
    go (inr lacks) (inr never) = grind (arith, contains_cases)

pub told : (growths : List Growth) (r e : ℕ) → Decided (IsTold growths r e)
told growths r e = ⊎_elim
    (λ w. inl (w.0, w.1, w.2.0, w.2.1))
    (λ lacks. inr (λ t. lacks (t.0, t.1, (t.2, t.3))))
    (some (λ (g : Growth). (g.region ≡ r) × (g.element ≡ e)) (λ g. both _ _ (equal g.region r) (equal g.element e))
    growths)

pub told_by_runs : (runs : List RegionRun) (r e : ℕ) → Decided (IsToldByRuns runs r e)
told_by_runs runs r e = ⊎_elim
    (λ w. inl (w.0, w.1, w.2.0, w.2.1.0, w.2.1.1))
    (λ lacks. inr (λ t. lacks (t.0, t.1, (t.2, (t.3, t.4)))))
    (some (λ (k : RegionRun). (k.region ≡ r) × ((k.run.first ≤ e) × (e ≤ k.run.last)))
    (λ k. both _ _ (equal k.region r) (both _ _ (at_most k.run.first e) (at_most e k.run.last))) runs)

pub of_run : (region first last r e : ℕ) → Decided (OfRun region first last r e)
of_run region first last r e = grind (arith, both, equal, at_most)

-- the test that goes by what was decided
abbrev pub test_of : {P : ℕ → Type 0} → ((x : ℕ) → Decided (P x)) → ℕ → Bool
test_of decided x = ⊎_elim (λ _. true) (λ _. false) (decided x)

pub test_yes : (P : ℕ → Type 0) (decided : (x : ℕ) → Decided (P x)) (x : ℕ) → P x → test_of decided x ≡ true
test_yes P decided x p = go (decided x)
  where
    go : (d : Decided (P x)) → ⊎_elim (λ _. true) (λ _. false) d ≡ true
    go (inl _) = refl
    go (inr lacks) = absurd (lacks p)

pub test_from : (P : ℕ → Type 0) (decided : (x : ℕ) → Decided (P x)) (x : ℕ) → test_of decided x ≡ true → P x
test_from P decided x = go (decided x)
  where
    go : (d : Decided (P x)) → ⊎_elim (λ _. true) (λ _. false) d ≡ true → P x
    go (inl p) h = p
    go (inr lacks) h = absurd (false≢true h)
