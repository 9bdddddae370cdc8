-- What is left of the shares of a book, and their figures added up.
use Rattle.std.proofs.Common.{◌≡◌, ℕ, zero, suc, ◌+◌, ◌-◌, ◌*◌, ◌^◌, ◌<◌, ◌≤◌, ◌==◌, Bool, true, false, not, cond, List, [], ◌∷◌, ◌++◌, length, slice_get, Some, refl, sym, ap, ◌∙◌, subst, ◌⊎◌, inl, inr, ⊎_elim, arith, length-append, append_assoc}
use Rattle.std.specs.List.{sum_by}
use Rattle.std.proofs.lemmas.Bool.{eqb-true, eq-eqb}
use Rattle.std.proofs.lemmas.List.Sums.{sum_by-cons}
use Rattle.std.proofs.lemmas.Option.{slice_get_within}
use Rattle.ledger.specs.Amounts.{total_bound}
use Rattle.ledger.specs.Figures.{bit, together}
use Rattle.ledger.specs.Shares.{Kind, parts_of_share, Adding}
use Rattle.ledger.specs.declared.figures.Figures.{Figures}
use Rattle.fixpoint.specs.Limits.{most_parts}

-- ---- lists

pub sum_push : {X : Type 0} (f : X → ℕ) (xs : List X) (x : X) → sum_by f (xs ++ x ∷ []) ≡ sum_by f xs + f x
sum_push f [] x = omega (arith, sum_by-cons f x [])
sum_push f (y ∷ ys) x = omega (arith, sum_push f ys x, sum_by-cons f y (ys ++ x ∷ []), sum_by-cons f y ys)

-- what stands before what was taken off, and at its end
pub split_more : {X : Type 0} (rest more all now : List X) (x : X) → now ≡ rest ++ x ∷ [] → now ++ more ≡ all
    → rest ++ x ∷ more ≡ all
split_more rest more all now x popped split = sym (append_assoc rest (x ∷ []) more)
    ∙ (ap (λ l. l ++ more) (sym popped) ∙ split)

at_split : {X : Type 0} (rest more : List X) (x : X) → slice_get (rest ++ x ∷ more) (length rest) ≡ Some x
at_split [] more x = refl
at_split (y ∷ ys) more x = at_split ys more x

pub at_rest : {X : Type 0} (all rest more : List X) (x : X) → rest ++ x ∷ more ≡ all
    → slice_get all (length rest) ≡ Some x
at_rest all rest more x split = subst (λ xs. slice_get xs (length rest) ≡ Some x) split (at_split rest more x)

pub split_size : {X : Type 0} (rest more : List X) (x : X) → length (rest ++ x ∷ more) ≡ length rest + 1 + length more
split_size [] more x = omega arith
split_size (y ∷ ys) more x = let r = split_size ys more x in omega (arith, r)

-- what stands in a list that grew by one
pub get_push : {X : Type 0} (xs : List X) (x : X) (k : ℕ) (y : X) → slice_get (xs ++ x ∷ []) k ≡ Some y
    → (slice_get xs k ≡ Some y) ⊎ ((k ≡ length xs) × (x ≡ y))
get_push [] x zero y h = inr (refl, cc h)
get_push [] x (suc k) y h = absurd (let w = slice_get_within [] k y h in omega arith)
get_push (z ∷ zs) x zero y h = inl h
get_push (z ∷ zs) x (suc k) y h =
    ⊎_elim inl (λ (p : (k ≡ length zs) × (x ≡ y)). inr (ap suc p.0, p.1)) (get_push zs x k y h)

pub each_pushed : {X : Type 0} (P : ℕ → X → Type 0) (xs ys : List X) (x : X) → ys ≡ xs ++ x ∷ []
    → ((k : ℕ) (y : X) → slice_get xs k ≡ Some y → P k y) → P (length xs) x → (k : ℕ) (y : X) → slice_get ys k ≡ Some y
    → P k y
each_pushed {X} P xs ys x pushed before here k y at = ⊎_elim
    (λ (h : slice_get xs k ≡ Some y). before k y h)
    (λ (h : (k ≡ length xs) × (x ≡ y)). subst (λ (z : ℕ × X). P z.0 z.1) (λ i. (sym h.0 i, h.1 i)) here)
    (get_push xs x k y (subst (λ zs. slice_get zs k ≡ Some y) pushed at))

-- ---- parts

parts_one : (owners number : ℕ) → number + 1 < owners → parts_of_share owners number ≡ 1
parts_one owners number less = go (number + 1 == owners) refl
  where
    go : (t : Bool) → (number + 1 == owners) ≡ t → cond t (most_parts + 1 - owners) 1 ≡ 1
    go true is = absurd (omega (arith, eqb-true (number + 1) owners is, less))
    go false is = refl

pub parts_last : (owners number : ℕ) → number + 1 ≡ owners → parts_of_share owners number ≡ most_parts + 1 - owners
parts_last owners number last = ap (λ t. cond t (most_parts + 1 - owners) 1) (eq-eqb (number + 1) owners last)

-- the parts of the share of this number, where there are so many owners
pub next_part : (owners number parts : ℕ) → parts ≡ parts_of_share owners number → number + 1 < owners → parts ≡ 1
next_part owners number parts is less = is ∙ parts_one owners number less

pub last_parts : (owners number parts : ℕ) → parts ≡ parts_of_share owners number → number + 1 ≡ owners
    → owners ≤ most_parts
    → parts + number ≡ most_parts
last_parts owners number parts is last few = let p = is ∙ parts_last owners number last in omega (arith, p, last, few)

-- ---- shares that have left are added up

module _ {L : Type 0} (kind : Kind L) where
  pub adding_first : (last : L) (rest lefts : List L) → lefts ≡ rest ++ last ∷ []
      → (kind.view last).parts + length rest ≡ most_parts → Adding kind (kind.view last) rest lefts
  adding_first last rest lefts all parts = record {
    parts = parts;
    owed = (let v = ap (λ (y : Figures). y.owed) (kind.knows last) in let a = ap (sum_by kind.owed) all in
        omega (arith, v, a, sum_push kind.owed rest last));
    cleared = grind (arith, sum_push);
    quiets = λ quiet.
        let is =
        quiet (length rest) last (subst (λ xs. slice_get xs (length rest) ≡ Some last) (sym all)
        (at_split rest [] last)) in
        ap (λ (y : Figures). y.quiets) (kind.knows last) ∙ ap (λ t. cond t (kind.view last).parts 0) is;
    calls = grind (arith, sum_push);
    finds = grind (arith, not, sum_push);
  }

  pub adding_more : (so_far : Figures) (l : L) (coming more lefts : List L) → coming ++ l ∷ more ≡ lefts
      → (kind.view l).parts ≡ 1 → Adding kind so_far (coming ++ l ∷ []) lefts
      → Adding kind (together so_far (kind.view l)) coming lefts
  adding_more so_far l coming more lefts split one h = record {
    parts = omega (arith, h.parts, one, length-append coming (l ∷ []));
    owed = (let v = ap (λ (y : Figures). y.owed) (kind.knows l) in
        omega (arith, v, h.owed, sum_push kind.owed coming l));
    cleared = grind (arith, sum_push);
    quiets = λ quiet.
        let is =
        quiet (length coming) l (subst (λ xs. slice_get xs (length coming) ≡ Some l) split (at_split coming more l))
        in
        let v = ap (λ (y : Figures). y.quiets) (kind.knows l) ∙ ap (λ t. cond t (kind.view l).parts 0) is in
        omega (arith, v, h.quiets quiet);
    calls = (let v = ap (λ (y : Figures). y.calls) (kind.knows l) in
        omega (arith, v, h.calls, sum_push (λ left. bit (kind.called left)) coming l));
    finds = (let v = ap (λ (y : Figures). y.finds) (kind.knows l) in
        omega (arith, v, h.finds, sum_push (λ left. bit (not (kind.quiet left))) coming l));
  }

  -- the totals fit
  owed_small : (xs : List L) → sum_by kind.owed xs ≤ length xs * total_bound
  owed_small [] = omega arith
  owed_small (x ∷ xs) =
      (let a = owed_small xs in let b = (kind.few x).0 in omega (arith, a, b, sum_by-cons kind.owed x xs))

  cleared_small : (xs : List L) → sum_by kind.cleared xs ≤ length xs * total_bound
  cleared_small [] = omega arith
  cleared_small (x ∷ xs) =
      (let a = cleared_small xs in let b = (kind.few x).1 in omega (arith, a, b, sum_by-cons kind.cleared x xs))

  pub adding_fits : (so_far : Figures) (l : L) (coming lefts : List L) → Adding kind so_far (coming ++ l ∷ []) lefts
      → length lefts ≤ most_parts
      → (so_far.owed + kind.owed l < 2 ^ 64) × (so_far.cleared + kind.cleared l < 2 ^ 64)
  adding_fits so_far l coming lefts h few = grind (arith, sum_push, owed_small, cleared_small)

-- what one adds, all together have
sum_at : {X : Type 0} (f : X → ℕ) (xs : List X) (k : ℕ) (x : X) → slice_get xs k ≡ Some x → f x ≤ sum_by f xs
sum_at f [] k x at = absurd (let w = slice_get_within [] k x at in omega arith)
sum_at f (y ∷ ys) zero x at = let is : y ≡ x = cc at in let a = ap f is in omega (arith, a, sum_by-cons f y ys)
sum_at f (y ∷ ys) (suc k) x at = let r = sum_at f ys k x at in omega (arith, r, sum_by-cons f y ys)

-- where the sum of bits isn't 0, one of them is set
bit_at_place : {X : Type 0} (f : X → Bool) (xs : List X) → 0 < sum_by (λ x. bit (f x)) xs
    → (k : ℕ) × (x : X) × (slice_get xs k ≡ Some x) × (f x ≡ true)
bit_at_place f [] h = absurd (omega arith)
bit_at_place {X} f (x ∷ xs) h = go (f x) refl (λ more. bit_at_place f xs more)
  where
    go : (t : Bool) → f x ≡ t → (0 < sum_by (λ y. bit (f y)) xs
        → (k : ℕ) × (y : X) × (slice_get xs k ≡ Some y) × (f y ≡ true))
        → (k : ℕ) × (y : X) × (slice_get (x ∷ xs) k ≡ Some y) × (f y ≡ true)
    go true is later = (0, x, refl, is)
    go false is later =
        let r = later (let a = ap bit is in omega (arith, h, a, sum_by-cons (λ y. bit (f y)) x xs)) in
        (suc r.0, r.1, r.2, r.3)

-- where all are added up, and one didn't leave on quiet, one had called `stop`
pub some_called : {L : Type 0} (kind : Kind L) (all : Figures) (lefts : List L) → Adding kind all [] lefts
    → (0 < all.finds → 0 < all.calls) → (k : ℕ) (l : L) → slice_get lefts k ≡ Some l → kind.quiet l ≡ false
    → (j : ℕ) × (m : L) × (slice_get lefts j ≡ Some m) × (kind.called m ≡ true)
some_called kind all lefts adding set k l at stopped =
    let a = sum_at (λ left. bit (not (kind.quiet left))) lefts k l at in let b = ap (λ t. bit (not t)) stopped in
    let found : 0 < all.finds = omega (arith, adding.finds, a, b) in
    bit_at_place kind.called lefts (let c = set found in omega (arith, adding.calls, c))
