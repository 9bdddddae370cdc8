-- What stands at a place of a list.
use Rattle.std.proofs.Common.{◌≡◌, ◌≢◌, ◌+◌, ◌<◌, ℕ, zero, suc, List, [], ◌∷◌, ◌++◌, length, map, drop, slice_index_or, slice_set, slice_get, Some, Contains, refl, ap, sym, ◌∙◌, subst, inl, inr, ◌⊎◌, ⊎_elim, arith}
use Rattle.run.specs.Table.{list_at}
use Rattle.worker.specs.Jobs.{AllOf}
use Rattle.worker.specs.Mailboxes.{Alike}

-- something stands at each place
pub place : {X : Type 0} (xs : List X) (k : ℕ) → k < length xs → (x : X) × (slice_get xs k ≡ Some x)
place [] k l = absurd (omega (arith, l))
place (x ∷ xs) zero l = (x, refl)
place (x ∷ xs) (suc k) l = place xs k (omega (arith, l))

pub within : {X : Type 0} (xs : List X) (k : ℕ) (x : X) → slice_get xs k ≡ Some x → k < length xs
within [] k x e = absurd (cc)
within (y ∷ ys) zero x e = omega arith
within (y ∷ ys) (suc k) x e = let l = within ys k x e in omega (arith, l)

pub same_place : {X : Type 0} (xs : List X) (k : ℕ) (x y : X) → slice_get xs k ≡ Some x → slice_get xs k ≡ Some y
    → x ≡ y
same_place xs k x y e h = let q : Some x ≡ Some y = sym e ∙ h in cc

pub read_place : {X : Type 0} (xs : List X) (k : ℕ) (x d : X) → slice_get xs k ≡ Some x → slice_index_or xs k d ≡ x
read_place [] k x d e = absurd (cc)
read_place (y ∷ ys) zero x d e = cc
read_place (y ∷ ys) (suc k) x d e = read_place ys k x d e

pub map_place : {X Y : Type 0} (f : X → Y) (xs : List X) (k : ℕ) (x : X) → slice_get xs k ≡ Some x
    → slice_get (map f xs) k ≡ Some (f x)
map_place f [] k x e = absurd (cc)
map_place f (y ∷ ys) zero x e = let q : y ≡ x = cc in ap (λ z. Some (f z)) q
map_place f (y ∷ ys) (suc k) x e = map_place f ys k x e

pub map_from : {X Y : Type 0} (f : X → Y) (xs : List X) (k : ℕ) (y : Y) → slice_get (map f xs) k ≡ Some y
    → (x : X) × (slice_get xs k ≡ Some x) × (f x ≡ y)
map_from f [] k y e = absurd (cc)
map_from f (x ∷ xs) zero y e = (x, refl, cc)
map_from f (x ∷ xs) (suc k) y e = map_from f xs k y e

pub map_size : {X Y : Type 0} (f : X → Y) (xs : List X) → length (map f xs) ≡ length xs
map_size f [] = refl
map_size f (x ∷ xs) = ap suc (map_size f xs)

-- what a map gives at a place
pub mapped : {X Y : Type 0} (f : X → Y) (xs : List X) (k : ℕ) (x : X) (d : Y) → slice_get xs k ≡ Some x
    → slice_index_or (map f xs) k d ≡ f x
mapped f xs k x d e = read_place (map f xs) k (f x) d (map_place f xs k x e)

pub push_low : {X : Type 0} (xs : List X) (y : X) (k : ℕ) (x : X) → slice_get xs k ≡ Some x
    → slice_get (xs ++ y ∷ []) k ≡ Some x
push_low [] y k x e = absurd (cc)
push_low (z ∷ zs) y zero x e = e
push_low (z ∷ zs) y (suc k) x e = push_low zs y k x e

pub push_last : {X : Type 0} (xs : List X) (y : X) (k : ℕ) → length xs ≡ k → slice_get (xs ++ y ∷ []) k ≡ Some y
push_last [] y zero e = refl
push_last [] y (suc k) e = absurd (omega (arith, e))
push_last (z ∷ zs) y zero e = absurd (omega (arith, e))
push_last (z ∷ zs) y (suc k) e = push_last zs y k (omega (arith, e))

pub push_cases : {X : Type 0} (xs : List X) (y : X) (k : ℕ) (x : X) → slice_get (xs ++ y ∷ []) k ≡ Some x
    → (slice_get xs k ≡ Some x) ⊎ ((k ≡ length xs) × (x ≡ y))
push_cases [] y zero x e = inr (refl, cc)
push_cases [] y (suc k) x e = absurd (cc)
push_cases (z ∷ zs) y zero x e = inl e
push_cases (z ∷ zs) y (suc k) x e =
    ⊎_elim (λ (h : slice_get zs k ≡ Some x). inl h) (λ (h : (k ≡ length zs) × (x ≡ y)). inr (ap suc h.0, h.1))
    (push_cases zs y k x e)

pub push_size : {X : Type 0} (xs : List X) (y : X) → length (xs ++ y ∷ []) ≡ length xs + 1
push_size [] y = refl
push_size (x ∷ xs) y = let r = push_size xs y in omega (arith, r)

pub list_low : {X : Type 0} (xs : List (List X)) (y : List X) (k : ℕ) → k < length xs
    → list_at (xs ++ y ∷ []) k ≡ list_at xs k
list_low xs y k l = let p = place xs k l in
    read_place (xs ++ y ∷ []) k p.0 [] (push_low xs y k p.0 p.1) ∙ sym (read_place xs k p.0 [] p.1)

pub list_last : {X : Type 0} (xs : List (List X)) (y : List X) (k : ℕ) → length xs ≡ k → list_at (xs ++ y ∷ []) k ≡ y
list_last xs y k e = read_place (xs ++ y ∷ []) k y [] (push_last xs y k e)

pub set_here : {X : Type 0} (xs : List (List X)) (k : ℕ) (y : List X) → k < length xs → list_at (slice_set xs k y) k ≡ y
set_here [] k y l = absurd (omega (arith, l))
set_here (x ∷ xs) zero y l = refl
set_here (x ∷ xs) (suc k) y l = set_here xs k y (omega (arith, l))

pub set_there : {X : Type 0} (xs : List (List X)) (k j : ℕ) (y : List X) → j ≢ k
    → list_at (slice_set xs k y) j ≡ list_at xs j
set_there [] k j y d = refl
set_there (x ∷ xs) zero zero y d = absurd (d refl)
set_there (x ∷ xs) zero (suc j) y d = refl
set_there (x ∷ xs) (suc k) zero y d = refl
set_there (x ∷ xs) (suc k) (suc j) y d = set_there xs k j y (λ e. d (ap suc e))

pub set_size : {X : Type 0} (xs : List X) (k : ℕ) (y : X) → length (slice_set xs k y) ≡ length xs
set_size [] k y = refl
set_size (x ∷ xs) zero y = refl
set_size (x ∷ xs) (suc k) y = ap suc (set_size xs k y)

pub map_set : {X Y : Type 0} (f : X → Y) (xs : List X) (k : ℕ) (y : X)
    → map f (slice_set xs k y) ≡ slice_set (map f xs) k (f y)
map_set f [] k y = refl
map_set f (x ∷ xs) zero y = refl
map_set f (x ∷ xs) (suc k) y = ap (λ l. f x ∷ l) (map_set f xs k y)

pub map_push : {X Y : Type 0} (f : X → Y) (xs : List X) (y : X) → map f (xs ++ y ∷ []) ≡ map f xs ++ f y ∷ []
map_push f [] y = refl
map_push f (x ∷ xs) y = ap (λ l. f x ∷ l) (map_push f xs y)

-- where a vector's element is read in place, the list of the vectors' lists has its list there
pub list_read : {V X : Type 0} (f : V → List X) (vs : List V) (k : ℕ) (v : V) → k < length vs
    → v ≡ slice_index_or vs k v → list_at (map f vs) k ≡ f v
list_read f [] k v l e = absurd (omega (arith, l))
list_read f (w ∷ ws) zero v l e = ap f (sym e)
list_read f (w ∷ ws) (suc k) v l e = list_read f ws k v (omega (arith, l)) e

drop_front_suc : {X : Type 0} (xs : List X) (k : ℕ) (y : X) (ys : List X) → drop k xs ≡ y ∷ ys
    → (slice_get xs k ≡ Some y) × (ys ≡ drop (suc k) xs)
drop_front_suc [] zero y ys e = absurd (cc)
drop_front_suc [] (suc k) y ys e = absurd (cc)
drop_front_suc (x ∷ xs) zero y ys e = (cc, sym (drop_nil xs ys (cc e)))
  where
    drop_nil : {X : Type 0} (xs ys : List X) → xs ≡ ys → drop 0 xs ≡ ys
    drop_nil [] ys q = q
    drop_nil (z ∷ zs) ys q = q
drop_front_suc (x ∷ xs) (suc k) y ys e = let r = drop_front_suc xs k y ys e in (r.0, r.1)

pub drop_front : {X : Type 0} (xs : List X) (k : ℕ) (y : X) (ys : List X) → drop k xs ≡ y ∷ ys
    → (slice_get xs k ≡ Some y) × (ys ≡ drop (k + 1) xs)
drop_front xs k y ys e = let r = drop_front_suc xs k y ys e in let n : suc k ≡ k + 1 = omega arith in
    (r.0, r.1 ∙ ap (λ m. drop m xs) n)

drop_at_suc : {X : Type 0} (xs : List X) (k : ℕ) (y : X) → slice_get xs k ≡ Some y → drop k xs ≡ y ∷ drop (suc k) xs
drop_at_suc [] k y e = absurd (cc)
drop_at_suc (x ∷ xs) zero y e = let q : x ≡ y = cc in (λ i. q i ∷ sym (drop_nil xs) i)
  where
    drop_nil : {X : Type 0} (xs : List X) → drop 0 xs ≡ xs
    drop_nil [] = refl
    drop_nil (z ∷ zs) = refl
drop_at_suc (x ∷ xs) (suc k) y e = drop_at_suc xs k y e

pub drop_at : {X : Type 0} (xs : List X) (k : ℕ) (y : X) → slice_get xs k ≡ Some y → drop k xs ≡ y ∷ drop (k + 1) xs
drop_at xs k y e = let n : suc k ≡ k + 1 = omega arith in drop_at_suc xs k y e ∙ ap (λ m. y ∷ drop m xs) n

pub all_of : {W : Type 0} (P : W → Type 0) (ws : List W) → ((k : ℕ) (w : W) → slice_get ws k ≡ Some w → P w)
    → AllOf P ws
all_of P [] f = tt
all_of P (w ∷ ws) f = (f 0 w refl, all_of P ws (λ k v e. f (suc k) v e))

pub alike_place : {X Y : Type 0} (P : X → Y → Type 0) (xs : List X) (ys : List Y) → Alike P xs ys → (k : ℕ) (x : X)
    → slice_get xs k ≡ Some x → (y : Y) × (slice_get ys k ≡ Some y) × P x y
alike_place P [] [] a k x e = absurd (cc)
alike_place P (z ∷ zs) (y ∷ ys) a zero x e = (y, refl, let q : z ≡ x = cc in subst (λ w. P w y) q a.0)
alike_place P (z ∷ zs) (y ∷ ys) a (suc k) x e = alike_place P zs ys a.1 k x e
alike_place P [] (y ∷ ys) a k x e = absurd a
alike_place P (z ∷ zs) [] a k x e = absurd a

pub contains_place : {X : Type 0} (xs : List X) (x : X) → Contains xs x → (k : ℕ) × (slice_get xs k ≡ Some x)
contains_place [] x h = absurd (omega (arith, h.1))
contains_place (y ∷ ys) x (zero, l, e) = (0, ap (λ z. Some z) e)
contains_place (y ∷ ys) x (suc k, l, e) = let r = contains_place ys x (k, omega (arith, l), e) in (suc r.0, r.1)

pub contained : {X : Type 0} (xs : List X) (k : ℕ) (x : X) → slice_get xs k ≡ Some x → Contains xs x
contained xs k x e = (k, within xs k x e, read_place xs k x x e)

-- what is read at a place below the length stands there
pub item_at : {X : Type 0} (xs : List X) (n : ℕ) (x : X) → n < length xs → x ≡ slice_index_or xs n x
    → slice_get xs n ≡ Some x
item_at [] n x l is = absurd (omega (arith, l))
item_at (y ∷ ys) zero x l is = ap Some (sym is)
item_at (y ∷ ys) (suc n) x l is = item_at ys n x (omega (arith, l)) is

-- the front of one list moves behind another
pub front_moved : {W X Y : Type 0} (f : W → Y) (h : X → Y) (ws ws' : List W) (w : W) (xs rest : List X) (x : X)
    (all : List Y) → ws' ≡ ws ++ w ∷ [] → xs ≡ x ∷ rest → f w ≡ h x → map f ws ++ map h xs ≡ all
    → map f ws' ++ map h rest ≡ all
front_moved f h ws ws' w xs rest x all pushed popped same before =
    ap (λ l. map f l ++ map h rest) pushed
    ∙ (moved f h ws w rest ∙ (ap (λ y. map f ws ++ y ∷ map h rest) same
    ∙ (ap (λ l. map f ws ++ map h l) (sym popped) ∙ before)))
  where
    moved : {W X Y : Type 0} (f : W → Y) (h : X → Y) (ws : List W) (w : W) (rest : List X)
        → map f (ws ++ w ∷ []) ++ map h rest ≡ map f ws ++ f w ∷ map h rest
    moved f h [] w rest = refl
    moved f h (x ∷ xs) w rest = ap (λ l. f x ∷ l) (moved f h xs w rest)

-- the same where the list whose front moves is not a map
pub front_moved_as : {W X : Type 0} (f : W → X) (ws ws' : List W) (w : W) (xs rest : List X) (x : X) (all : List X)
    → ws' ≡ ws ++ w ∷ [] → xs ≡ x ∷ rest → f w ≡ x → map f ws ++ xs ≡ all → map f ws' ++ rest ≡ all
front_moved_as f ws ws' w xs rest x all pushed popped same before =
    ap (λ l. map f l ++ rest) pushed ∙ (moved f ws w rest
    ∙ (ap (λ y. map f ws ++ y ∷ rest) same ∙ (ap (λ l. map f ws ++ l) (sym popped) ∙ before)))
  where
    moved : {W X : Type 0} (f : W → X) (ws : List W) (w : W) (rest : List X)
        → map f (ws ++ w ∷ []) ++ rest ≡ map f ws ++ f w ∷ rest
    moved f [] w rest = refl
    moved f (x ∷ xs) w rest = ap (λ l. f x ∷ l) (moved f xs w rest)

-- what holds of each element and its place holds after a push
pub each_pushed : {W : Type 0} (P : ℕ → W → Type 0) (ws ws' : List W) (w : W) → ws' ≡ ws ++ w ∷ []
    → ((k : ℕ) (v : W) → slice_get ws k ≡ Some v → P k v) → P (length ws) w → (k : ℕ) (v : W) → slice_get ws' k ≡ Some v
    → P k v
each_pushed {W} P ws ws' w pushed before here k v e = ⊎_elim
    (λ (h : slice_get ws k ≡ Some v). before k v h)
    (λ (h : (k ≡ length ws) × (v ≡ w)). subst (λ (y : ℕ × W). P y.0 y.1) (λ i. (sym h.0 i, sym h.1 i)) here)
    (push_cases ws w k v (subst (λ xs. slice_get xs k ≡ Some v) pushed e))
