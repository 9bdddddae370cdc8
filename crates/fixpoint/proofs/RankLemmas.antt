-- No rank reaches the number that all growths stay below.
use Rattle.std.proofs.Common.{◌≡◌, ◌≢◌, ◌⊎◌, ⊎_elim, inl, inr, ℕ, zero, suc, ◌+◌, ◌<◌, ◌≤◌, List, [], ◌∷◌, length, Contains, AllPairs, get_or, refl, sym, ap, ◌∙◌, subst, arith}
use Rattle.std.proofs.lemmas.Bool.{cases_eq, cases_lt}
use Rattle.std.proofs.lemmas.List.{get_or_default}
use Rattle.std.proofs.lemmas.List.Elements.{Contains-get_or}
use Rattle.std.proofs.lemmas.List.Kept.{AllPairs-cons}
use Rattle.fixpoint.specs.Limits.{most_growths}
use Rattle.fixpoint.specs.Rules.{Rules, AreLawful, AreDifferent}
use Rattle.fixpoint.specs.State.{State, IsSoundPart, received_from}
use Rattle.fixpoint.proofs.ListLemmas.{contains_cases}

-- what stands in a list of pairs that R relates is the same, or R relates it
pub pair_cases : {X : Type 0} (R : X → X → Type 0) (xs : List X) (x y : X) → AllPairs R xs → Contains xs x
    → Contains xs y → (x ≡ y) ⊎ (R x y ⊎ R y x)
pair_cases {X} R xs x y pairs (i, li, hi) (j, lj, hj) = ⊎_elim
    (λ (same : i ≡ j). inl (sym hi ∙ (ap (λ k. get_or xs k x) same ∙ there)))
    (λ (differ : i ≢ j). ⊎_elim
    (λ (before : i < j). inr (inl (subst (λ z. R z y) hi (subst (R (get_or xs i x)) there (pairs i j x before lj)))))
    (λ (behind : j ≤ i). inr (inr (subst (λ z. R z x) there
    (subst (R (get_or xs j x)) hi (pairs j i x (omega (arith, behind, λ (e : j ≡ i). differ (sym e))) li)))))
    (cases_lt i j))
    (cases_eq i j)
  where
    there : get_or xs j x ≡ y
    there = get_or_default xs j x y lj ∙ hj

-- Sound parts of one system, by the numbers of their owners.
module _ {A F G : Type 0} (rules : Rules A F G) (lawful : AreLawful rules) (a : A) (ok : rules.valid a)
    (part : ℕ → State A G) (sound : (i : ℕ) → i < rules.parts a → IsSoundPart rules (part i))
    (systems : (i : ℕ) → i < rules.parts a → (part i).system ≡ a)
    (numbers : (i : ℕ) → i < rules.parts a → (part i).me ≡ i) where
  -- a growth that stands in the log of an owner
  abbrev IsLogged : G → Type 0
  IsLogged g = (i : ℕ) × (i < rules.parts a) × Contains (part i).log g

  owner_is : (g : G) (at : IsLogged g) → rules.owner a (rules.fact g) ≡ at.0
  owner_is g (i, low, at) =
      subst (λ (x : A). rules.owner x (rules.fact g) ≡ i) (systems i low)
      ((sound i low).well_formed.own g at ∙ numbers i low)

  proper_at : (g : G) → IsLogged g → rules.proper a (rules.fact g)
  proper_at g (i, low, at) =
      subst (λ (x : A). rules.proper x (rules.fact g)) (systems i low) ((sound i low).proper g at)

  -- growths of different ranks are of different facts, whichever logs they stand in
  apart : (g h : G) → IsLogged g → IsLogged h → rules.rank h < rules.rank g → rules.fact g ≡ rules.fact h → ⊥
  apart g h (i, li, here) (j, lj, there) lower same =
      let one : j ≡ i = sym (owner_is h (j, lj, there))
      ∙ (ap (rules.owner a) (sym same) ∙ owner_is g (i, li, here)) in
      let with_it = subst (λ k. Contains (part k).log h) one there in
      ⊎_elim
      (λ (is : g ≡ h). let e = ap (λ (x : G). rules.rank x) is in omega (arith, e, lower))
      (⊎_elim (λ (differ : (rules.fact g) ≡ rules.fact h → ⊥). absurd (differ same))
      (λ (differ : (rules.fact h) ≡ rules.fact g → ⊥). absurd (differ (sym same))))
      (pair_cases (λ (x y : G). rules.fact x ≡ rules.fact y → ⊥) (part i).log g h (sound i li).well_formed.once here
      with_it)

  -- what an owner received is of another owner, and of one that there is
  pub of_another : (i j : ℕ) (h : G) → i < rules.parts a → Contains (received_from (part i) j) h → i ≢ j
  of_another i j h low at same =
      let told = (sound i low).heard j h at in
      (lawful.others (part i).system (sound i low).valid (part i).me (rules.fact h) told.1).1
      (told.0 ∙ (sym same ∙ sym (numbers i low)))

  pub of_owner : (i j : ℕ) (h : G) → i < rules.parts a → Contains (received_from (part i) j) h
      → j < rules.parts a
  of_owner i j h low at =
      let told = (sound i low).heard j h at in
      let inside = (lawful.others (part i).system (sound i low).valid (part i).me (rules.fact h) told.1).0 in
      subst (λ (x : A). j < rules.parts x) (systems i low)
      (subst (λ k. k < rules.parts (part i).system) told.0 inside)

  -- Where they received only what stands in each other's logs, no rank is above the number of facts.
  module _ (heard : (i j : ℕ) (g : G) → i < rules.parts a → j < rules.parts a → i ≢ j
      → Contains (received_from (part i) j) g → Contains (part j).log g) where
    -- below a rank above 1 there is the one before it
    before : (g : G) → IsLogged g → 1 < rules.rank g → (h : G) × IsLogged h × (rules.rank h + 1 ≡ rules.rank g)
    before g (i, low, at) more =
        let s = (sound i low).steps g at more in (
          s.0,
          ⊎_elim
              (λ (own : Contains (part i).log s.0). (i, low, own))
              (λ (told : (j : ℕ) × Contains (received_from (part i) j) s.0).
              let inside = of_owner i told.0 s.0 low told.1 in
              (told.0, inside, heard i told.0 s.0 low inside (of_another i told.0 s.0 low told.1) told.1))
              s.1,
          s.2,
        )

    -- so many different facts of growths whose ranks are no higher than that
    record AreFacts (k : ℕ) (facts : List F) : Type 0 where
      pub count : length facts ≡ k
      pub once : AllPairs (λ f g. f ≡ g → ⊥) facts
      pub each : (f : F) → Contains facts f → (g : G) × IsLogged g × (rules.rank g ≤ k) × (rules.fact g ≡ f)

    no_facts : AreFacts 0 []
    no_facts = record {
      count = refl;
      once = λ i j d l h. absurd (omega (arith, h));
      each = λ f h. absurd (omega (arith, h.1));
    }

    with_fact : (k : ℕ) (g : G) → IsLogged g → rules.rank g ≡ suc k → (facts : List F) → AreFacts k facts
        → AreFacts (suc k) (rules.fact g ∷ facts)
    with_fact k g at is facts less = record {
      count = ap suc less.count;
      once = AllPairs-cons (λ (e f : F). e ≡ f → ⊥) (rules.fact g) facts (λ i d l.
          let h = less.each (get_or facts i d) (Contains-get_or facts i d l) in
          (λ same. apart g h.0 at h.1 (omega (arith, is, h.2)) (same ∙ sym h.3))) less.once;
      each = λ f h. ⊎_elim
          (λ (same : (rules.fact g) ≡ f). (g, at, omega (arith, is), same))
          (λ (other : Contains facts f).
          let w = less.each f other in
          (w.0, w.1, omega (arith, w.2), w.3))
          (contains_cases (rules.fact g) facts f h);
    }

    -- there are as many facts as the rank says
    as_many : (k : ℕ) (g : G) → IsLogged g → rules.rank g ≡ k → (facts : List F) × AreFacts k facts
    as_many zero g at is = ([], no_facts)
    as_many (suc zero) g at is = (rules.fact g ∷ [], with_fact 0 g at is [] no_facts)
    as_many (suc (suc k)) g at is =
        let h = before g at (omega (arith, is)) in
        let less = as_many (suc k) h.0 h.1 (omega (arith, is, h.2)) in
        (rules.fact g ∷ less.0, with_fact (suc k) g at is less.0 less.1)

    pub ranks_low : (i : ℕ) (g : G) → i < rules.parts a → Contains (part i).log g → rules.rank g < most_growths
    ranks_low i g low at =
        let list = as_many (rules.rank g) g (i, low, at) refl in
        let different : AreDifferent rules a list.0 = record {
          each = λ f h.
              let w = list.1.each f h in
              subst (λ (x : F). rules.proper a x) w.3 (proper_at w.0 w.1);
          once = list.1.once;
        } in
        let most = lawful.few_facts a ok list.0 different in
        omega (arith, most, list.1.count)
