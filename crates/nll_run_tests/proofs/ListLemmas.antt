-- What stands at a place of a list.
use Rattle.std.proofs.Common.{◌≡◌, ℕ, zero, suc, ◌+◌, ◌<◌, List, [], ◌∷◌, ◌++◌, length, map, length-append, slice_get, slice_index_or, slice_set, Some, refl, sym, ap, ◌∙◌, subst, arith}
use Rattle.std.proofs.lemmas.Option.{slice_get-get_or}

-- what is read at a place stands there
pub stands_at : {X : Type 0} (xs : List X) (i : ℕ) (x : X) → i < length xs → x ≡ slice_index_or xs i x
    → slice_get xs i ≡ Some x
stands_at xs i x within is = slice_get-get_or xs i x within ∙ ap Some (sym is)

-- what all say of their places, all say where one is put that says it
pub each_set : {X : Type 0} (P : ℕ → X → Type 0) (xs : List X) (i : ℕ) (w : X) → P i w
    → ((k : ℕ) (x : X) → slice_get xs k ≡ Some x → P k x) → (k : ℕ) (x : X) → slice_get (slice_set xs i w) k ≡ Some x
    → P k x
each_set P [] i w here each k x at = each k x at
each_set P (y ∷ ys) zero w here each zero x at = let is : w ≡ x = cc at in subst (P 0) is here
each_set P (y ∷ ys) zero w here each (suc k) x at = each (suc k) x at
each_set P (y ∷ ys) (suc i) w here each zero x at = each zero x at
each_set P (y ∷ ys) (suc i) w here each (suc k) x at =
    each_set (λ n. P (suc n)) ys i w here (λ j z h. each (suc j) z h) k x at

-- what is taken off the end stood at the last place
pub last_at : {X : Type 0} (xs rest : List X) (x : X) (k : ℕ) → xs ≡ rest ++ x ∷ [] → length xs ≡ k + 1
    → slice_get xs k ≡ Some x
last_at xs rest x k is size =
    let end : length rest ≡ k =
    (let a = ap length is in let b = length-append rest (x ∷ []) in omega (arith, a, b, size)) in
    subst (λ ys. slice_get ys k ≡ Some x) (sym is)
    (subst (λ n. slice_get (rest ++ x ∷ []) n ≡ Some x) end (at_end rest x))
  where
    at_end : {X : Type 0} (ys : List X) (x : X) → slice_get (ys ++ x ∷ []) (length ys) ≡ Some x
    at_end [] x = refl
    at_end (y ∷ ys) x = at_end ys x

-- what stands in the front of a list stands in the list
pub get_front : {X : Type 0} (xs ys : List X) (k : ℕ) (x : X) → slice_get xs k ≡ Some x
    → slice_get (xs ++ ys) k ≡ Some x
get_front [] ys k x at = absurd (cc at)
get_front (z ∷ zs) ys zero x at = at
get_front (z ∷ zs) ys (suc k) x at = get_front zs ys k x at

-- what stands at a place of a list stands there once each is mapped
pub map_place : {X Y : Type 0} (f : X → Y) (xs : List X) (k : ℕ) (x : X) → slice_get xs k ≡ Some x
    → slice_get (map f xs) k ≡ Some (f x)
map_place f [] k x e = absurd (cc)
map_place f (y ∷ ys) zero x e = let q : y ≡ x = cc in ap (λ z. Some (f z)) q
map_place f (y ∷ ys) (suc k) x e = map_place f ys k x e
