-- For those who write an engine: what it finds, that there are few facts, and what its least solution has.
use Rattle.std.proofs.Common.{◌≡◌, ◌≢◌, ◌⊎◌, ◌↔◌, ◌<◌, ◌≤◌, ◌^◌, ◌%◌, ℕ, zero, suc, Bool, true, not, ◌&&◌, ◌||◌, eqb, IsTrue, List, [], length, Contains, slice_index_or, refl, sym, ◌∙◌, inl, inr, ⊎_elim, subst, eq-or-lt_of_le, mod-lt, arith}
use Rattle.std.specs.Prelude.{Result, Ok, Err, OnOk}
use Rattle.std.specs.List.{list_any}
use Rattle.std.proofs.lemmas.Bool.{eqb-true, eq-eqb, cases_eq}
use Rattle.std.proofs.lemmas.List.{get_or_past}
use Rattle.std.proofs.lemmas.List.Elements.{Contains-append_left, Contains-append_right, Contains-append_cases}
use Rattle.std.proofs.lemmas.Map.Made.{IsDistinct-from_AllPairs}
use Rattle.std.proofs.lemmas.Map.Steps.{length-le_from_distinct_below}
use Rattle.std.proofs.lemmas.Map.Views.{Contains-from_any}
use Rattle.fixpoint.specs.Limits.{most_growths}
use Rattle.fixpoint.specs.Rules.{Rules, AreDifferent, AreLawful, Sees, IsLeast}
use Rattle.fixpoint.proofs.ListLemmas.{filter_from, filter_to, both, and_both, any_from, any_to}
use Rattle.keeper.specs.Engine.{Finds, GotOwn, nothing, with_fact}
use Rattle.keeper.proofs.ListLemmas.{or_cases, or_left, or_right}

module _ {A F G : Type 0} (rules : Rules A F G) (a : A) (i : ℕ) where
  finds_own : (known : F → Bool) (before : F → Type 0) (facts : List F)
      → ((f : F) → Contains facts f → rules.derives a known f)
      → ((f : F) → rules.derives a known f → before f ⊎ Contains facts f)
      → (old new : List F) → GotOwn rules a i facts old new → Finds rules a i known before old new
  finds_own known before facts each all old new got = rw got.is (record {
    kept = Contains-append_left old _;
    each = λ f h. ⊎_elim inl
        (λ own.
        let t = filter_from _ facts f own in
        inr (record { own = eqb-true _ _ t.1; proper = got.proper f t.0; follows = each f t.0 }))
        (Contains-append_cases old _ f h);
    all = λ f own h. ⊎_elim inl
        (λ at. inr (Contains-append_right old _ f (filter_to _ facts f at (eq-eqb _ _ own))))
        (all f h);
  })

  -- an owner that got its facts of a list began, if exactly the facts of the list follow from nothing
  pub finds_first : (facts : List F) → ((f : F) → rules.derives a (nothing rules) f ↔ Contains facts f)
      → {T E : Type 0} (result : Result T E) (old new : List F) → OnOk result (GotOwn rules a i facts old new)
      → OnOk result (Finds rules a i (nothing rules) (λ _. ⊥) old new)
  finds_first facts exact (Ok x) old new got =
      finds_own (nothing rules) (λ _. ⊥) facts (λ f. (exact f).1) (λ f h. inr ((exact f).0 h)) old new got
  finds_first facts exact (Err e) old new got = tt

  -- An owner that got its facts of a list entered a fact: where that is known all of the list follows, and nothing but
  -- the list follows now and didn't before.
  pub finds_more : ((f g : F) → (rules.same f g ≡ true) ↔ (f ≡ g)) → (fact : F) (known more : F → Bool) (facts : List F)
      → ((f : F) → more f ≡ with_fact rules fact known f)
      → ((k : F → Bool) → IsTrue (k fact) → (f : F) → Contains facts f → rules.derives a k f)
      → ((k : F → Bool) → ((f : F) → IsTrue (k f) → (fact ≡ f) ⊎ IsTrue (known f))
      → (f : F) → rules.derives a k f → rules.derives a known f ⊎ Contains facts f)
      → {T E : Type 0} (result : Result T E) (old new : List F) → OnOk result (GotOwn rules a i facts old new)
      → OnOk result (Finds rules a i more (λ f. rules.derives a known f) old new)
  finds_more tells fact known more facts is each all (Ok x) old new got =
      finds_own more (λ f. rules.derives a known f) facts
      (each more (is fact ∙ or_left (rules.same fact fact) (known fact) ((tells fact fact).1 refl)))
      (all more (λ f h. ⊎_elim (λ s. inl ((tells fact f).0 s)) inr
      (or_cases (rules.same fact f) (known f) (sym (is f) ∙ h))))
      old new got
  finds_more tells fact known more facts is each all (Err e) old new got = tt

-- ---- laws

-- different facts are few where they are numbers of 32 bits
pub few_numbers : {A G : Type 0} (rules : Rules A ℕ G) (a : A) → ((x : ℕ) → rules.proper a x → x < 2 ^ 32)
    → (facts : List ℕ) → AreDifferent rules a facts → length facts < most_growths
few_numbers rules a low facts different =
    let short = length-le_from_distinct_below facts (2 ^ 32)
    (IsDistinct-from_AllPairs (λ x y. (eqb-true x y, eq-eqb x y)) facts different.once)
    (λ x h. low x (different.each x (Contains-from_any eqb-true x facts h))) in
    omega (arith, short)

-- that two numbers differ, said by a test
pub not_same : (m n : ℕ) → (m ≢ n) ↔ (not (eqb m n) ≡ true)
not_same m n = (λ differ. grind arith, λ test. grind arith)

-- ---- facts that are numbers, each of which follows from nothing or along an edge from one other

module _ {A G : Type 0} (owners : A → ℕ) (starts : A → List ℕ) (ends : A → ℕ → List ℕ) (fact rank : G → ℕ) where
  -- A fact is a number of 32 bits, whose owner is its remainder. An owner reads the facts of others from which edges
  -- lead to its own.
  abbrev edge_rules : Rules A ℕ G
  edge_rules = record {
    valid = λ a. (0 < owners a) × (owners a ≤ 64);
    parts = owners;
    owner = λ a x. x % owners a;
    reads = λ a i x. list_any (λ y. not (eqb (x % owners a) i) && eqb (y % owners a) i) (ends a x);
    derives = λ a known y. Contains (starts a) y ⊎ ((x : ℕ) × Contains (ends a x) y × IsTrue (known x));
    proper = λ a x. x < 2 ^ 32;
    same = λ x y. eqb x y;
    fact = fact;
    rank = rank;
  }

  -- the owner of a fact sees those from which edges lead to it
  sees : (a : A) (x y : ℕ) → Contains (ends a x) y → Sees edge_rules a (y % owners a) x
  sees a x y edge = ⊎_elim inl (λ other. inr (any_to _ (ends a x) y edge
      (and_both _ _ ((not_same _ _).0 other) (eq-eqb _ _ refl)))) (cases_eq (x % owners a) (y % owners a))

  -- these rules keep the laws
  pub edges_lawful : AreLawful edge_rules
  edges_lawful = record {
    local = λ a ok known more y each. ⊎_elim inl (λ w. inr (w.0, w.1, each w.0 (sees a w.0 y w.1) w.2));
    owned = λ a ok known y h. mod-lt y ok.0;
    others = λ a ok i x read. (mod-lt x ok.0, (not_same _ i).1 (both _ _ (any_from _ (ends a x) read).2).0);
    few = λ a ok. ok;
    few_facts = λ a ok. few_numbers edge_rules a (λ x low. low);
    same_tells = λ x y. (eqb-true x y, eq-eqb x y);
  }

-- ---- and their least solution

module _ (edge : ℕ → ℕ → Bool) where
  -- whether edges lead to y from what starts, by way of numbers below n alone
  abbrev leads : ℕ → (ℕ → Bool) → ℕ → Bool
  leads zero starts y = starts y
  leads (suc n) starts y = leads n starts y || (leads n starts n && leads n (edge n) y)

  abbrev Parts : ℕ → (ℕ → Bool) → ℕ → Type 0
  Parts n starts y = (leads n starts y ≡ true) ⊎ ((leads n starts n ≡ true) × (leads n (edge n) y ≡ true))

  apart : (n : ℕ) (starts : ℕ → Bool) (y : ℕ) → leads (suc n) starts y ≡ true → Parts n starts y
  apart n starts y h = ⊎_elim inl (λ t. inr (both _ _ t)) (or_cases _ _ h)

  together : (n : ℕ) (starts : ℕ → Bool) (y : ℕ) → Parts n starts y → leads (suc n) starts y ≡ true
  together n starts y = ⊎_elim (or_left _ _) (λ t. or_right _ _ (and_both _ _ t.0 t.1))

  starting : (n : ℕ) (starts : ℕ → Bool) (y : ℕ) → starts y ≡ true → leads n starts y ≡ true
  starting zero starts y h = h
  starting (suc n) starts y h = together n starts y (inl (starting n starts y h))

  -- where edges lead to x, and on from there, they lead on
  joined : (n : ℕ) (starts : ℕ → Bool) (x y : ℕ) → x < n → leads n starts x ≡ true
      → leads n (edge x) y ≡ true → leads n starts y ≡ true
  joined zero starts x y low h k = absurd (omega (arith, low))
  joined (suc n) starts x y low h k = together n starts y (⊎_elim
      (λ (is : x ≡ n). inr (
        ⊎_elim (λ d. subst (λ m. leads n starts m ≡ true) is d) (λ t. t.0) (apart n starts x h),
        ⊎_elim (λ d. subst (λ m. leads n (edge m) y ≡ true) is d) (λ t. t.1) (apart n (edge x) y k),
      ))
      (λ (less : x < n). ⊎_elim
      (λ d. ⊎_elim (λ e. inl (joined n starts x y less d e)) (λ e. inr (joined n starts x n less d e.0, e.1))
      (apart n (edge x) y k))
      (λ d. inr (d.0, ⊎_elim (λ e. joined n (edge n) x y less d.1 e) (λ e. e.1) (apart n (edge x) y k)))
      (apart n starts x h))
      (eq-or-lt_of_le (omega (arith, low))))

  led : (P : ℕ → Type 0) → ((x y : ℕ) → edge x y ≡ true → P x → P y) → (n : ℕ) (starts : ℕ → Bool)
      → ((y : ℕ) → starts y ≡ true → P y) → (y : ℕ) → leads n starts y ≡ true → P y
  led P on zero starts first y h = first y h
  led P on (suc n) starts first y h = ⊎_elim (led P on n starts first y)
      (λ t. led P on n (edge n) (λ z e. on n z e (led P on n starts first n t.0)) y t.1) (apart n starts y h)

abbrev has : List ℕ → ℕ → Bool
has xs y = list_any (λ x. eqb x y) xs

has_from : (xs : List ℕ) (y : ℕ) → has xs y ≡ true → Contains xs y
has_from xs y h = let w = any_from _ xs h in subst (Contains xs) (eqb-true _ _ w.2) w.1

has_to : (xs : List ℕ) (y : ℕ) → Contains xs y → has xs y ≡ true
has_to xs y h = any_to _ xs y h (eq-eqb _ _ refl)

abbrev ends : List (List ℕ) → ℕ → List ℕ
ends edges x = slice_index_or edges x []

-- a number from which an edge leads has an entry
has_ends : (edges : List (List ℕ)) (x y : ℕ) → Contains (ends edges x) y → x < length edges
has_ends edges x y h = grind (arith, get_or_past)

-- P holds of the least solution, if what follows starts or has an edge from a known number, and P holds of what starts
-- and goes on along edges. For each number a list has where the edges from there lead.
pub least_led : {A G : Type 0} (rules : Rules A ℕ G) (a : A) (starts : List ℕ) (edges : List (List ℕ))
    → ((known : ℕ → Bool) (y : ℕ) → rules.derives a known y
    → Contains starts y ⊎ ((x : ℕ) × Contains (ends edges x) y × IsTrue (known x)))
    → (P : ℕ → Type 0) → ((y : ℕ) → Contains starts y → P y) → ((x y : ℕ) → Contains (ends edges x) y → P x → P y)
    → (y : ℕ) → IsLeast rules a y → P y
least_led rules a starts edges cases P first on y least =
    let edge : ℕ → ℕ → Bool = λ x. has (ends edges x) in
    let n = length edges in
    led edge P (λ x z e. on x z (has_from _ z e)) n (has starts) (λ z h. first z (has_from _ z h)) y
    (least (leads edge n (has starts)) (λ z h. ⊎_elim (λ s. starting edge n (has starts) z (has_to _ z s))
    (λ w. joined edge n (has starts) w.0 z (has_ends edges w.0 z w.1) w.2
    (starting edge n (edge w.0) z (has_to _ z w.1)))
    (cases _ z h)))
