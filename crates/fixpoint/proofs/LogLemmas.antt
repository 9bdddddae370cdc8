-- What lists of growths tell, and where an owner looks facts up.
use Rattle.std.proofs.Common.{◌≡◌, ◌≢◌, ◌↔◌, ℕ, ◌<◌, true, false, cond, ◌&&◌, nat_lt, List, Contains, eqb, ap, ⊎_elim, arith}
use Rattle.std.proofs.lemmas.Bool.{eq-eqb}
use Rattle.std.proofs.lemmas.Bool.Decides.{eqb_tells}
use Rattle.fixpoint.specs.Rules.{Rules}
use Rattle.fixpoint.specs.Logs.{IsTold, list_of, tells, tells_before}
use Rattle.fixpoint.proofs.ListLemmas.{any_from, any_to, both, and_both}

module _ {A F G : Type 0} (rules : Rules A F G) where
  pub list_own : (a : A) (i : ℕ) (log : List G) (received : ℕ → List G) (f : F)
      → rules.owner a f ≡ i → list_of rules a i log received f ≡ log
  list_own a i log received f is = ap (λ t. cond t log (received (rules.owner a f))) (eq-eqb _ _ is)

  pub list_other : (a : A) (i : ℕ) (log : List G) (received : ℕ → List G) (f : F)
      → rules.owner a f ≢ i → list_of rules a i log received f ≡ received (rules.owner a f)
  list_other a i log received f other = ⊎_elim
      (λ (t : (eqb (rules.owner a f) i ≡ true) × (rules.owner a f ≡ i)). absurd (other t.1))
      (λ (t : (eqb (rules.owner a f) i ≡ false) × (rules.owner a f ≢ i)).
      ap (λ x. cond x log (received (rules.owner a f))) t.0)
      (eqb_tells (rules.owner a f) i)

  module _ (same : (f g : F) → (rules.same f g ≡ true) ↔ (f ≡ g)) where
    pub tells_from : (list : List G) (f : F) → tells rules list f ≡ true → IsTold rules list f
    tells_from list f h = let w = any_from (λ (g : G). rules.same (rules.fact g) f) list h in
        (w.0, w.1, (same (rules.fact w.0) f).0 w.2)

    pub tells_to : (list : List G) (f : F) → IsTold rules list f → tells rules list f ≡ true
    tells_to list f h = any_to (λ (g : G). rules.same (rules.fact g) f) list h.0 h.1 ((same (rules.fact h.0) f).1 h.2)

    pub before_from : (rank : ℕ) (list : List G) (f : F) → tells_before rules rank list f ≡ true
        → (g : G) × Contains list g × (rules.fact g ≡ f) × (rules.rank g < rank)
    before_from rank list f h =
        let w = any_from (λ (g : G). rules.same (rules.fact g) f && nat_lt (rules.rank g) rank) list h in
        let b = both (rules.same (rules.fact w.0) f) (nat_lt (rules.rank w.0) rank) w.2 in
        (w.0, w.1, (same (rules.fact w.0) f).0 b.0, lt_from (rules.rank w.0) rank b.1)
      where
        lt_from : (m n : ℕ) → nat_lt m n ≡ true → m < n
        lt_from m n h = search (arith)

    pub before_to : (rank : ℕ) (list : List G) (f : F) (g : G) → Contains list g → rules.fact g ≡ f
        → rules.rank g < rank → tells_before rules rank list f ≡ true
    before_to rank list f g at is low =
        any_to (λ (g : G). rules.same (rules.fact g) f && nat_lt (rules.rank g) rank) list g at
        (and_both (rules.same (rules.fact g) f) (nat_lt (rules.rank g) rank) ((same (rules.fact g) f).1 is)
        (lt_to (rules.rank g) rank low))
      where
        lt_to : (m n : ℕ) → m < n → nat_lt m n ≡ true
        lt_to m n h = search (arith)
