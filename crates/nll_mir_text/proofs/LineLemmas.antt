-- Tests and lists, as one more line of a text changes them.
use Rattle.std.proofs.Common.{◌≡◌, ◌⊎◌, ℕ, ◌<◌, Bool, true, false, cond, List, [], ◌∷◌, ◌++◌, Some, Contains, length, map, inl, inr, refl, sym, ap, ◌∙◌, subst, ⊎_elim, arith, length-append, slice_get}
use Rattle.std.specs.Prelude.{◌&&◌, ◌==◌, nat_lt, All}
use Rattle.std.specs.List.{list_all}
use Rattle.std.specs.List.Sorted.{IsStrictlyIncreasing}
use Rattle.std.proofs.lemmas.Bool.{cases_lt, and_parts, ltb-true, eqb-false}
use Rattle.std.proofs.lemmas.List.{get_or_append_left, get_or_at}
use Rattle.std.proofs.lemmas.List.Elements.{Contains-push_cases, All-cons, All-nil}
use Rattle.std.proofs.lemmas.Option.{get_or_from_slice_get, slice_get_within, slice_get-get_or}
use Rattle.nll_format.specs.Names.{number_of}
use Rattle.nll_mir_grammar.specs.WrittenTypes.{WrittenName}
use Rattle.nll_mir_text.specs.Naming.{is_name_among}

-- ---- tests

pub three : (a b c : Bool) → a && b && c ≡ true → (a ≡ true) × (b ≡ true) × (c ≡ true)
three true true c h = (refl, refl, h)
three true false c h = absurd cc
three false b c h = absurd cc

pub positive : (n : ℕ) → n == 0 ≡ false → 0 < n
positive n e = omega (arith, eqb-false n 0 e)

pub below_all : (n : ℕ) (xs : List ℕ) → list_all (λ b. nat_lt b n) xs ≡ true → All (λ b. b < n) xs
below_all n [] h = All-nil (λ b. b < n)
below_all n (x ∷ xs) h =
    let both = and_parts (nat_lt x n) (list_all (λ b. nat_lt b n) xs) h in
    let first : x < n = ltb-true x n both.0 in
    All-cons (λ b. b < n) x xs first (below_all n xs both.1)

-- names that are declared have numbers
pub numbers_below : (names xs : List WrittenName) → list_all (is_name_among names) xs ≡ true
    → All (λ q. q < length names) (map (number_of names) xs)
numbers_below names [] h = All-nil (λ q. q < length names)
numbers_below names (x ∷ xs) h =
    let both = and_parts (is_name_among names x) (list_all (is_name_among names) xs) h in
    let first : number_of names x < length names = ltb-true (number_of names x) (length names) both.0 in
    All-cons (λ q. q < length names) (number_of names x) (map (number_of names) xs) first
    (numbers_below names xs both.1)

-- ---- lists

pub nothing_at : {X : Type 0} (xs : List X) (p : ℕ) (x : X) → length xs ≡ 0 → slice_get xs p ≡ Some x → ⊥
nothing_at xs p x none at = absurd (omega (arith, none, slice_get_within xs p x at))

-- what stands in a list with one more element
pub pushed_at : {X : Type 0} (xs : List X) (y : X) (p : ℕ) (x : X) → slice_get (xs ++ y ∷ []) p ≡ Some x
    → (slice_get xs p ≡ Some x) ⊎ ((p ≡ length xs) × (x ≡ y))
pushed_at xs y p x at =
    let within = slice_get_within (xs ++ y ∷ []) p x at in
    ⊎_elim
    (λ low. inl (slice_get-get_or xs p x low
    ∙ ap Some (sym (get_or_append_left xs (y ∷ []) x p low) ∙ get_or_from_slice_get (xs ++ y ∷ []) p x x at)))
    (λ high.
    let same : p ≡ length xs = omega (arith, high, within, length-append xs (y ∷ [])) in
    inr (same, sym (get_or_from_slice_get (xs ++ y ∷ []) p x x at) ∙ get_or_at xs y [] x p (sym same)))
    (cases_lt p (length xs))

-- a fact on all elements, at one that stands there
pub all_at : {X : Type 0} (P : X → Type 0) (xs : List X) (p : ℕ) (x : X) → All P xs → slice_get xs p ≡ Some x → P x
all_at P xs p x all at = subst P (get_or_from_slice_get xs p x x at) (all p x (slice_get_within xs p x at))

pub rise_push : (xs : List ℕ) (n : ℕ) → IsStrictlyIncreasing xs → All (λ q. q < n) xs
    → IsStrictlyIncreasing (xs ++ n ∷ [])
rise_push xs n rise below k l = grind (arith, get_or_append_left, length-append, get_or_at, cases_lt)

pub inserted : {X : Type 0} (b : Bool) (ks : List X) (x y : X) → Contains (cond b ks (ks ++ x ∷ [])) y
    → Contains ks y ⊎ (x ≡ y)
inserted true ks x y c = inl c
inserted false ks x y c = Contains-push_cases ks x y c

pub first_pushed : (xs : List ℕ) (n : ℕ) → (length xs ≡ 0 → n ≡ 0) → (0 < length xs → slice_get xs 0 ≡ Some 0)
    → slice_get (xs ++ n ∷ []) 0 ≡ Some 0
first_pushed [] n z h = ap Some (z refl)
first_pushed (x ∷ xs) n z h = h (omega arith)
