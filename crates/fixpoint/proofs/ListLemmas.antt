-- Lists, filters and tests of lists.
use Rattle.std.proofs.Common.{◌≡◌, ℕ, zero, suc, ◌+◌, ◌<◌, ◌≤◌, Bool, true, false, cond, ◌&&◌, ◌||◌, List, [], ◌∷◌, ◌++◌, length, map, set, get_or, take, slice_get, Some, Contains, refl, sym, ap, ◌∙◌, subst, inl, inr, ◌⊎◌, ⊎_elim, arith}
use Rattle.std.specs.List.{list_any, filter}
use Rattle.std.proofs.lemmas.Bool.{false≢true}
use Rattle.std.proofs.lemmas.Option.{slice_get_within}
use Rattle.std.proofs.lemmas.List.{get_or-map, length-map, map-set}
use Rattle.std.proofs.lemmas.List.Sums.{count_by-le-length, length-filter}
use Rattle.std.proofs.Math.Seq.{map-set_same}
use Rattle.fixpoint.specs.State.{with_growths}

pub contains_tail : {X : Type 0} (x : X) (xs : List X) (y : X) → Contains xs y → Contains (x ∷ xs) y
contains_tail x xs y h = (suc h.0, (let l = h.1 in omega arith), h.2)

pub contains_head : {X : Type 0} (x : X) (xs : List X) → Contains (x ∷ xs) x
contains_head x xs = (0, (omega arith), refl)

pub contains_cases : {X : Type 0} (x : X) (xs : List X) (y : X) → Contains (x ∷ xs) y → (x ≡ y) ⊎ Contains xs y
contains_cases x xs y (zero, l, h) = inl h
contains_cases x xs y (suc k, l, h) = inr (k, (omega arith), h)

pub filter_from : {X : Type 0} (p : X → Bool) (xs : List X) (y : X) → Contains (filter p xs) y
    → Contains xs y × (p y ≡ true)
filter_from p [] y h = absurd (let l = h.1 in omega arith)
filter_from {X} p (x ∷ xs) y h = go (p x) refl h (λ t. filter_from p xs y t)
  where
    go : (b : Bool) → p x ≡ b → Contains (cond b (x ∷ filter p xs) (filter p xs)) y
        → (Contains (filter p xs) y → Contains xs y × (p y ≡ true)) → Contains (x ∷ xs) y × (p y ≡ true)
    go true is k again =
        ⊎_elim (λ (same : x ≡ y). (
          subst (Contains (x ∷ xs)) same (contains_head x xs),
          subst (λ z. p z ≡ true) same is,
        ))
        (λ (t : Contains (filter p xs) y). let r = again t in (contains_tail x xs y r.0, r.1))
        (contains_cases x (filter p xs) y k)
    go false is k again = let r = again k in (contains_tail x xs y r.0, r.1)

pub filter_to : {X : Type 0} (p : X → Bool) (xs : List X) (y : X) → Contains xs y → p y ≡ true
    → Contains (filter p xs) y
filter_to p [] y h t = absurd (let l = h.1 in omega arith)
filter_to {X} p (x ∷ xs) y h t = ⊎_elim
    (λ (same : x ≡ y). subst (λ b. Contains (cond b (x ∷ filter p xs) (filter p xs)) y) (sym (ap p same ∙ t))
    (subst (Contains (x ∷ filter p xs)) same (contains_head x (filter p xs))))
    (λ (w : Contains xs y). later (p x) (filter_to p xs y w t))
    (contains_cases x xs y h)
  where
    later : (b : Bool) → Contains (filter p xs) y → Contains (cond b (x ∷ filter p xs) (filter p xs)) y
    later true k = contains_tail x (filter p xs) y k
    later false k = k

pub both : (a b : Bool) → (a && b) ≡ true → (a ≡ true) × (b ≡ true)
both true b h = (refl, h)
both false b h = absurd (false≢true h)

pub and_both : (a b : Bool) → a ≡ true → b ≡ true → (a && b) ≡ true
and_both a b h k = ap (λ x. x && b) h ∙ k

or_cases : (a b : Bool) → (a || b) ≡ true → (a ≡ true) ⊎ (b ≡ true)
or_cases true b h = inl refl
or_cases false b h = inr h

or_right : (a b : Bool) → b ≡ true → (a || b) ≡ true
or_right true b h = refl
or_right false b h = h

-- a test holds of some element
pub any_from : {X : Type 0} (p : X → Bool) (xs : List X) → list_any p xs ≡ true
    → (x : X) × Contains xs x × (p x ≡ true)
any_from p [] h = absurd (false≢true h)
any_from {X} p (x ∷ xs) h = ⊎_elim
    (λ (t : p x ≡ true). (x, contains_head x xs, t))
    (λ (t : list_any p xs ≡ true). let s : (y : X) × Contains xs y × (p y ≡ true) = any_from p xs t in
    (s.0, contains_tail x xs s.0 s.1, s.2))
    (or_cases (p x) (list_any p xs) h)

pub any_to : {X : Type 0} (p : X → Bool) (xs : List X) (y : X) → Contains xs y → p y ≡ true → list_any p xs ≡ true
any_to p [] y h t = absurd (let l = h.1 in omega arith)
any_to {X} p (x ∷ xs) y h t = ⊎_elim
    (λ (same : x ≡ y). ap (λ b. b || list_any p xs) (ap p same ∙ t))
    (λ (w : Contains xs y). or_right (p x) (list_any p xs) (any_to p xs y w t))
    (contains_cases x xs y h)

pub contains_only : {X : Type 0} (x y : X) → Contains (x ∷ []) y → x ≡ y
contains_only x y h =
    ⊎_elim (λ is. is) (λ (none : Contains [] y). absurd (let l = none.1 in omega arith)) (contains_cases x [] y h)

-- ---- beginnings of lists

take_suc : {X : Type 0} (xs : List X) (n : ℕ) (x : X) → slice_get xs n ≡ Some x → take (suc n) xs ≡ take n xs ++ x ∷ []
take_suc [] n x h = absurd (let l = slice_get_within [] n x h in omega arith)
take_suc (y ∷ ys) zero x h = ap (λ z. z ∷ []) (cc h)
take_suc (y ∷ ys) (suc n) x h = ap (λ zs. y ∷ zs) (take_suc ys n x h)

pub take_more : {X : Type 0} (xs : List X) (n : ℕ) (x : X) → slice_get xs n ≡ Some x
    → take (n + 1) xs ≡ take n xs ++ x ∷ []
take_more xs n x h = let e : n + 1 ≡ suc n = omega arith in ap (λ k. take k xs) e ∙ take_suc xs n x h

pub take_length : {X : Type 0} (xs : List X) (n : ℕ) → n ≤ length xs → length (take n xs) ≡ n
take_length [] zero l = refl
take_length [] (suc n) l = absurd (omega arith)
take_length (x ∷ xs) zero l = refl
take_length (x ∷ xs) (suc n) l = ap suc (take_length xs n (omega arith))

pub take_all : {X : Type 0} (xs : List X) → take (length xs) xs ≡ xs
take_all [] = refl
take_all (x ∷ xs) = ap (λ zs. x ∷ zs) (take_all xs)

pub filter_le : {X : Type 0} (p : X → Bool) (xs : List X) → length (filter p xs) ≤ length xs
filter_le p xs = omega (arith, length-filter p xs, count_by-le-length p xs)

-- ---- lists that vectors hold, of which one is read at a place

module _ {V G : Type 0} (f : V → List G) (lists : List V) (p : ℕ) (v : V) (within : p < length (map f lists))
    (is : v ≡ get_or lists p v) where
  place : p < length lists
  place = omega (arith, within, length-map lists f)

  pub list_at : f v ≡ get_or (map f lists) p []
  list_at = sym (get_or-map f lists p v [] place ∙ ap f (sym is))

  pub lists_kept : (kept : V) → f kept ≡ f v → map f (set lists p kept) ≡ map f lists
  lists_kept kept same = map-set_same f lists p kept v (same ∙ ap f is)

  pub lists_pushed : (pushed : V) (g : G) → f pushed ≡ f v ++ g ∷ []
      → map f (set lists p pushed) ≡ with_growths (map f lists) p (g ∷ [])
  lists_pushed pushed g more = map-set f lists p pushed
      ∙ ap (set (map f lists) p) (more ∙ ap (λ xs. xs ++ g ∷ []) list_at)
