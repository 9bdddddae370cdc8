-- Lists of ends, and what is read off them.
use Rattle.std.proofs.Common.{append-nil, ◌≡◌, ◌<◌, ℕ, zero, suc, List, [], ◌∷◌, ◌++◌, length, map, slice_index_or, slice_set, refl, ap, sym, ◌∙◌, subst, arith}
use Rattle.std.specs.Prelude.{Option, Some, None, slice_get}
use Rattle.mail.specs.declared.mail.Mail as Mail
use Rattle.worker.specs.Mailboxes.{Alike, Both, HasEnds, Stays, Keeps, Shuts, through}

pub map_set : {X Y : Type 0} (f : X → Y) (xs : List X) (k : ℕ) (y : X)
    → map f (slice_set xs k y) ≡ slice_set (map f xs) k (f y)
map_set f [] k y = refl
map_set f (x ∷ xs) zero y = refl
map_set f (x ∷ xs) (suc k) y = ap (λ l. f x ∷ l) (map_set f xs k y)

pub map_read : {X Y : Type 0} (f : X → Y) (xs : List X) (k : ℕ) (x : X) (d : Y) → k < length xs
    → x ≡ slice_index_or xs k x → slice_index_or (map f xs) k d ≡ f x
map_read f [] k x d lt e = absurd (omega arith)
map_read f (y ∷ ys) zero x d lt e = ap f (sym e)
map_read f (y ∷ ys) (suc k) x d lt e = map_read f ys k x d (omega arith) e

pub read_set : {X Y : Type 0} (f : X → Y) (xs : List X) (k : ℕ) (y : X) (d : Y) → k < length xs
    → slice_index_or (map f (slice_set xs k y)) k d ≡ f y
read_set f [] k y d lt = absurd (omega arith)
read_set f (x ∷ xs) zero y d lt = refl
read_set f (x ∷ xs) (suc k) y d lt = read_set f xs k y d (omega arith)

pub map_length : {X Y : Type 0} (f : X → Y) (xs : List X) → length (map f xs) ≡ length xs
map_length f [] = refl
map_length f (x ∷ xs) = ap suc (map_length f xs)

pub set_length : {X : Type 0} (xs : List X) (k : ℕ) (y : X) → length (slice_set xs k y) ≡ length xs
set_length [] k y = refl
set_length (x ∷ xs) zero y = refl
set_length (x ∷ xs) (suc k) y = ap suc (set_length xs k y)

pub set_own : {Y : Type 0} (xs : List Y) (k : ℕ) (d : Y) → slice_set xs k (slice_index_or xs k d) ≡ xs
set_own [] k d = refl
set_own (x ∷ xs) zero d = refl
set_own (x ∷ xs) (suc k) d = ap (λ l. x ∷ l) (set_own xs k d)

pub alike_refl : {X : Type 0} (P : X → X → Type 0) → ((x : X) → P x x) → (xs : List X) → Alike P xs xs
alike_refl P r [] = tt
alike_refl P r (x ∷ xs) = (r x, alike_refl P r xs)

pub alike_set : {X : Type 0} (P : X → X → Type 0) → ((x : X) → P x x) → (xs : List X) (k : ℕ) (x y : X)
    → x ≡ slice_index_or xs k x → P x y → Alike P xs (slice_set xs k y)
alike_set P r [] k x y e p = tt
alike_set P r (z ∷ zs) zero x y e p = (subst (λ w. P w y) e p, alike_refl P r zs)
alike_set P r (z ∷ zs) (suc k) x y e p = (r z, alike_set P r zs k x y e p)

pub alike_trans : {X Y Z : Type 0} (P : X → Y → Type 0) (Q : Y → Z → Type 0) (R : X → Z → Type 0)
    → ((x : X) (y : Y) (z : Z) → P x y → Q y z → R x z)
    → (xs : List X) (ys : List Y) (zs : List Z) → Alike P xs ys → Alike Q ys zs → Alike R xs zs
alike_trans P Q R t [] [] [] p q = tt
alike_trans P Q R t (x ∷ xs) (y ∷ ys) (z ∷ zs) p q = (t x y z p.0 q.0, alike_trans P Q R t xs ys zs p.1 q.1)
alike_trans P Q R t [] (y ∷ ys) zs p q = absurd p
alike_trans P Q R t (x ∷ xs) [] zs p q = absurd p
alike_trans P Q R t [] [] (z ∷ zs) p q = absurd q
alike_trans P Q R t (x ∷ xs) (y ∷ ys) [] p q = absurd q

pub alike_length : {X Y : Type 0} (P : X → Y → Type 0) (xs : List X) (ys : List Y) → Alike P xs ys
    → length ys ≡ length xs
alike_length P [] [] a = refl
alike_length P (x ∷ xs) (y ∷ ys) a = ap suc (alike_length P xs ys a.1)
alike_length P [] (y ∷ ys) a = absurd a
alike_length P (x ∷ xs) [] a = absurd a

pub set_log : {X : Type 0} (xs : List X) (k : ℕ) (y d : X) → k < length xs → slice_index_or (slice_set xs k y) k d ≡ y
set_log [] k y d lt = absurd (omega arith)
set_log (x ∷ xs) zero y d lt = refl
set_log (x ∷ xs) (suc k) y d lt = set_log xs k y d (omega arith)

-- ---- ends that may be missing

pub both_refl : {X : Type 0} (P : X → X → Type 0) → ((x : X) → P x x) → (x : Option X) → Both P x x
both_refl P r None = tt
both_refl P r (Some x) = r x

both_trans : {X Y Z : Type 0} (P : X → Y → Type 0) (Q : Y → Z → Type 0) (R : X → Z → Type 0)
    → ((x : X) (y : Y) (z : Z) → P x y → Q y z → R x z)
    → (x : Option X) (y : Option Y) (z : Option Z) → Both P x y → Both Q y z → Both R x z
both_trans P Q R t None None None p q = tt
both_trans P Q R t (Some x) (Some y) (Some z) p q = t x y z p q
both_trans P Q R t None (Some y) z p q = absurd p
both_trans P Q R t (Some x) None z p q = absurd p
both_trans P Q R t None None (Some z) p q = absurd q
both_trans P Q R t (Some x) (Some y) None p q = absurd q

ends_trans : {X Y Z : Type 0} (P : X → Y → Type 0) (Q : Y → Z → Type 0) (R : X → Z → Type 0)
    → ((x : X) (y : Y) (z : Z) → P x y → Q y z → R x z)
    → (xs : List (Option X)) (ys : List (Option Y)) (zs : List (Option Z)) → Alike (Both P) xs ys → Alike (Both Q) ys zs
    → Alike (Both R) xs zs
ends_trans P Q R t = alike_trans (Both P) (Both Q) (Both R) (both_trans P Q R t)

-- no other end is missing than before
pub ends_kept : {X Y : Type 0} (P : X → Y → Type 0) (i : ℕ) (xs : List (Option X)) (ys : List (Option Y))
    → Alike (Both P) xs ys → HasEnds i xs → HasEnds i ys
ends_kept P i xs ys a h j e = h j (missing P xs ys a j e)
  where
    missing_here : {X Y : Type 0} (P : X → Y → Type 0) (x : Option X) (y : Option Y) → Both P x y → y ≡ None
        → Some x ≡ Some None
    missing_here P None y b e = refl
    missing_here P (Some x) (Some y) b e = absurd (cc)
    missing_here P (Some x) None b e = absurd b

    missing : {X Y : Type 0} (P : X → Y → Type 0) (xs : List (Option X)) (ys : List (Option Y)) → Alike (Both P) xs ys
        → (j : ℕ) → slice_get ys j ≡ Some None → slice_get xs j ≡ Some None
    missing P [] [] a j e = absurd (cc)
    missing P (x ∷ xs) (y ∷ ys) a zero e = missing_here P x y a.0 (cc)
    missing P (x ∷ xs) (y ∷ ys) a (suc j) e = missing P xs ys a.1 j e
    missing P [] (y ∷ ys) a j e = absurd a
    missing P (x ∷ xs) [] a j e = absurd a

-- what is read at a place below the length stands there
pub item_at : {X : Type 0} (xs : List X) (n : ℕ) (x : X) → n < length xs → x ≡ slice_index_or xs n x
    → slice_get xs n ≡ Some x
item_at [] n x l is = absurd (omega (arith, l))
item_at (y ∷ ys) zero x l is = ap Some (sym is)
item_at (y ∷ ys) (suc n) x l is = item_at ys n x (omega (arith, l)) is

pub stays_on : {M T S R C P : Type 0} (m : Mail.Ghosts M T S R C P) (xs ys zs : List (Option S))
    → Alike (Both (Stays m)) xs ys → Alike (Both (Stays m)) ys zs → Alike (Both (Stays m)) xs zs
stays_on m = ends_trans (Stays m) (Stays m) (Stays m) (λ x y z a b r p. b r (a r p))

pub keeps_on : {M T S R C P : Type 0} (m : Mail.Ghosts M T S R C P) (xs ys zs : List (Option R))
    → Alike (Both (Keeps m)) xs ys → Alike (Both (Keeps m)) ys zs → Alike (Both (Keeps m)) xs zs
keeps_on m =
    ends_trans (Keeps m) (Keeps m) (Keeps m)
    (λ x y z a b. ((λ s p. b.0 s (a.0 s p)), (λ s p. b.1 s (a.1 s p)), b.2 ∙ a.2))

pub alike_ended : {X Y : Type 0} (P : X → Y → Type 0) (xs rest : List X) (ys : List Y) → length rest ≡ 0
    → ((more : List Y) → Alike P rest more → Alike P xs (ys ++ more)) → Alike P xs ys
alike_ended P xs [] ys e h = subst (λ l. Alike P xs l) (append-nil ys) (h [] tt)
alike_ended P xs (r ∷ rest) ys e h = absurd (omega (arith, e))

-- the lists of closed senders are those of the senders
pub shut_lists : {M T S R C P : Type 0} (m : Mail.Ghosts M T S R C P) (xs : List (Option S)) (ys : List (Option C))
    → Alike (Both (Shuts m)) xs ys → map (through m.all_sent) ys ≡ map (through m.sent) xs
shut_lists m [] [] a = refl
shut_lists m (x ∷ xs) (y ∷ ys) a = ap (λ (z : _ × _). z.0 ∷ z.1) (λ i. (one m x y a.0 i, shut_lists m xs ys a.1 i))
  where
    one : {M T S R C P : Type 0} (m : Mail.Ghosts M T S R C P) (x : Option S) (y : Option C) → Both (Shuts m) x y
        → through m.all_sent y ≡ through m.sent x
    one m None None b = refl
    one m (Some x) (Some y) b = b.0
    one m None (Some y) b = absurd b
    one m (Some x) None b = absurd b
shut_lists m [] (y ∷ ys) a = absurd a
shut_lists m (x ∷ xs) [] a = absurd a

-- a sender that stayed the end of its mailbox and was then closed
pub shut_on : {M T S R C P : Type 0} (m : Mail.Ghosts M T S R C P) (xs ys : List (Option S)) (zs : List (Option C))
    → Alike (Both (Stays m)) xs ys → Alike (Both (Shuts m)) ys zs
    → Alike (Both (λ s z. (r : R) → m.pairs s r → m.closes z r)) xs zs
shut_on {M} {T} {S} {R} {C} {P} m =
    ends_trans (Stays m) (Shuts m) (λ (s : S) (z : C). (r : R) → m.pairs s r → m.closes z r)
    (λ x y z a b r p. b.1 r (a r p))
