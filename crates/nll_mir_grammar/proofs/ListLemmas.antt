-- Values parted by commas, and values between two tokens.
use Rattle.std.proofs.Common.{◌≡◌, ◌<◌, List, [], ◌∷◌, ◌++◌, length, map, refl, sym, ap, ◌∙◌, subst, append_assoc, arith}
use Rattle.std.specs.List.{AllByRecursion, flat_map}
use Rattle.std.specs.Prelude.{Option, Some, None}
use Rattle.std.proofs.lemmas.List.{map-append}
use Rattle.nll_text.specs.Tokens.{Token, sign}
use Rattle.nll_mir_grammar.specs.MirForms.{parted}
use Rattle.nll_text.specs.Grammars.{Grammar, Begins, HasNone, IsNotNext}
use Rattle.nll_mir_grammar.specs.Grammars.{Puts, IsOne, IsBefore, IsListable, behind_token, empty, pair, commas, parentheses, MayFollowLast}
use Rattle.nll_mir_grammar.proofs.GrammarLemmas.{tail_same, head_same, behind_found, behind_none, behind_other, behind_one, Joins, pair_none, pair_none_behind, pair_one, all_push, append_nil, flat_map_push, fewer_left}

-- ---- values parted by commas

-- what stands behind the first of values that are parted by commas
more_parted : {A : Type 0} → Grammar A → List A → List Token
more_parted g xs = flat_map (λ other. sign 44 ∷ other) (map g.spells xs)

-- A value that was read is followed by others, each behind a comma.
record Continues {A : Type 0} (g : Grammar A) (a : A) (ts : List Token) (xs : List A) (r : List Token) : Type 0 where
  joined : ts ≡ more_parted g xs ++ r
  allowed : AllByRecursion g.IsAllowed xs
  last : MayFollowLast g a xs r
  none : HasNone (behind_token (sign 44) g) r

before_more : {A : Type 0} (g : Grammar A) → IsBefore (sign 44) g → (a : A) (xs : List A) (r : List Token)
    → g.IsAllowed a → MayFollowLast g a xs r → g.MayFollow a (more_parted g xs ++ r)
unfolding more_parted
before_more g before a [] r h last = last
before_more g before a (b ∷ bs) r h last =
    before a ((g.spells b ++ flat_map (λ other. sign 44 ∷ other) (map g.spells bs)) ++ r) h

-- the next value, behind its comma
next_value : {A : Type 0} (g : Grammar A) → IsBefore (sign 44) g
    → (a : A) (ts : List Token) (b : A) (bs : List A) (r : List Token) → Continues g a ts (b ∷ bs) r
    → Begins (behind_token (sign 44) g) ts b (more_parted g bs ++ r)
unfolding more_parted
next_value g before a ts b bs r c = grind (arith, append_assoc, before_more)

values_behind : {A : Type 0} (g : Grammar A) (a : A) (ts : List Token) (b : A) (bs : List A) (r : List Token)
    → Continues g a ts (b ∷ bs) r → Continues g b (more_parted g bs ++ r) bs r
values_behind g a ts b bs r c = record { joined = refl; allowed = c.allowed.1; last = c.last; none = c.none }

continues_one : {A : Type 0} (g : Grammar A) → IsBefore (sign 44) g → IsOne g
    → (a : A) (ts : List Token) (xs ys : List A) (r s : List Token) → Continues g a ts xs r → Continues g a ts ys s
    → (xs ≡ ys) × (r ≡ s)
unfolding more_parted
continues_one g before one a ts [] [] r s x y = (refl, sym x.joined ∙ y.joined)
continues_one g before one a ts [] (b ∷ bs) r s x y =
    absurd (x.none b _ (subst (λ l. Begins (behind_token (sign 44) g) l b (more_parted g bs ++ s)) x.joined
    (next_value g before a ts b bs s y)))
continues_one g before one a ts (b ∷ bs) [] r s x y =
    absurd (y.none b _ (subst (λ l. Begins (behind_token (sign 44) g) l b (more_parted g bs ++ r)) y.joined
    (next_value g before a ts b bs r x)))
continues_one g before one a ts (b ∷ bs) (d ∷ ds) r s x y =
    let same =
    behind_one g (sign 44) one ts b d _ _ (next_value g before a ts b bs r x) (next_value g before a ts d ds s y) in
    let other : Continues g b (more_parted g ds ++ s) ds s =
    subst (λ z. Continues g z (more_parted g ds ++ s) ds s) (sym same.0) (values_behind g a ts d ds s y) in
    let next =
    continues_one g before one b (more_parted g bs ++ r) bs ds r s (values_behind g a ts b bs r x)
    (subst (λ l. Continues g b l ds s) (sym same.1) other) in
    let e = same.0 in let f = next.0 in
    (cc, next.1)

-- the first of values parted by commas
commas_front : {A : Type 0} (g : Grammar A) → IsBefore (sign 44) g
    → (ts : List Token) (a : A) (xs : List A) (r : List Token) → Begins (commas g) ts (a ∷ xs) r
    → Begins g ts a (more_parted g xs ++ r)
unfolding more_parted
commas_front g before ts a xs r b = grind (arith, append_assoc, before_more)

-- and what stands behind it
commas_back : {A : Type 0} (g : Grammar A) (ts : List Token) (a : A) (xs : List A) (r : List Token)
    → Begins (commas g) ts (a ∷ xs) r → Continues g a (more_parted g xs ++ r) xs r
commas_back g ts a xs r b = record { joined = refl; allowed = b.allowed.1.1; last = b.follows.0; none = b.follows.1 }

pub commas_none : {A : Type 0} (g : Grammar A) → IsBefore (sign 44) g → (ts : List Token) → HasNone g ts
    → HasNone (commas g) ts
commas_none g before ts none [] r b = absurd (let h : 0 < 0 = b.allowed.0 in omega (arith, h))
commas_none g before ts none (a ∷ xs) r b = none a _ (commas_front g before ts a xs r b)

pub commas_one : {A : Type 0} (g : Grammar A) → IsBefore (sign 44) g → IsOne g → IsOne (commas g)
commas_one g before one ts [] ys r s x y = absurd (let h : 0 < 0 = x.allowed.0 in omega (arith, h))
commas_one g before one ts (a ∷ xs) [] r s x y = absurd (let h : 0 < 0 = y.allowed.0 in omega (arith, h))
commas_one g before one ts (a ∷ xs) (b ∷ ys) r s x y =
    let same = one ts a b _ _ (commas_front g before ts a xs r x) (commas_front g before ts b ys s y) in
    let other : Continues g a (more_parted g ys ++ s) ys s =
    subst (λ z. Continues g z (more_parted g ys ++ s) ys s) (sym same.0) (commas_back g ts b ys s y) in
    let next =
    continues_one g before one a (more_parted g xs ++ r) xs ys r s (commas_back g ts a xs r x)
    (subst (λ l. Continues g a l ys s) (sym same.1) other) in
    let e = same.0 in let f = next.0 in
    (cc, next.1)

-- what stands behind the last value
abbrev pub EndsWell : {A : Type 0} → Grammar A → List A → List Token → Type 0
EndsWell g [] r = Unit {0}
EndsWell g (a ∷ xs) r = MayFollowLast g a xs r

-- Values parted by commas were read, at least one, and the rest is left.
pub record HasListed {A : Type 0} (g : Grammar A) (ts : List Token) (xs : List A) (rest : List Token) : Type 0 where
  pub joined : ts ≡ parted (map g.spells xs) ++ rest
  pub some : 0 < length xs
  pub allowed : AllByRecursion g.IsAllowed xs
  pub last : EndsWell g xs rest

pub first_listed : {A : Type 0} (g : Grammar A) (ts rest : List Token) (a : A) → Begins g ts a rest
    → HasListed g ts (a ∷ []) rest
first_listed g ts rest a b = grind (arith, append_nil)

last_push : {A : Type 0} (g : Grammar A) (a : A) (xs : List A) (b : A) (r : List Token) → g.MayFollow b r
    → MayFollowLast g a (xs ++ b ∷ []) r
last_push g a [] b r h = h
last_push g a (x ∷ xs) b r h = last_push g x xs b r h

parted_push : {A : Type 0} (g : Grammar A) (a : A) (xs : List A) (b : A)
    → parted (map g.spells (a ∷ (xs ++ b ∷ []))) ≡ parted (map g.spells (a ∷ xs)) ++ (sign 44 ∷ g.spells b)
parted_push g a xs b = grind (arith, map-append, flat_map_push, append_assoc)

pub listed_more : {A : Type 0} (g : Grammar A) (ts mid rest : List Token) (xs : List A) (b : A) → HasListed g ts xs mid
    → Begins (behind_token (sign 44) g) mid b rest → HasListed g ts (xs ++ b ∷ []) rest
listed_more g ts mid rest [] b h x = absurd (let e : 0 < 0 = h.some in omega (arith, e))
listed_more g ts mid rest (a ∷ xs) b h x = grind (arith, append_assoc, parted_push, all_push, last_push)

pub commas_found : {A : Type 0} (g : Grammar A) (ts rest : List Token) (xs : List A) → HasListed g ts xs rest
    → HasNone (behind_token (sign 44) g) rest → Begins (commas g) ts xs rest
commas_found g ts rest [] h none = absurd (let e : 0 < 0 = h.some in omega (arith, e))
commas_found g ts rest (a ∷ xs) h none =
    record { joined = h.joined; allowed = (h.some, h.allowed); follows = (h.last, none) }

-- ---- values that are put into a list

pub put_behind : {A V R : Type 0} (g : Grammar A) (t : Token) (value : V → A) (after : R → List Token)
    (ts rest : List Token) (old new : List V) (o : Option R) → ts ≡ t ∷ rest
    → Puts g value after rest old new o → Puts (behind_token t g) value after ts old new o
put_behind g t value after ts rest old new None e h = (behind_none g t ts rest e h.0, h.1)
put_behind g t value after ts rest old new (Some p) e h = (h.0, h.1, behind_found g t ts rest h.0 (after p) e h.2)

-- a value that was read, and appended
pub put_found : {A V R : Type 0} (g : Grammar A) (value : V → A) (after : R → List Token) (ts : List Token)
    (old new : List V) (v : V) (rest : R) → new ≡ old ++ v ∷ [] → Begins g ts (value v) (after rest)
    → Puts g value after ts old new (Some rest)
put_found g value after ts old new v rest e b = (value v, ap (map value) e ∙ map-append value old (v ∷ []), b)

-- The first of values that are parted by commas was put into the list.
pub put_first : {A V R : Type 0} (g : Grammar A) (value : V → A) (after : R → List Token) (ts : List Token)
    (old new : List V) (r : R) → old ≡ [] → Puts g value after ts old new (Some r)
    → HasListed g ts (map value new) (after r)
put_first g value after ts old new r e p =
    let same = p.1 ∙ ap (λ l. map value l ++ p.0 ∷ []) e in
    subst (λ xs. HasListed g ts xs (after r)) (sym same) (first_listed g ts (after r) p.0 p.2)

-- The next one was appended.
pub put_next : {A V R : Type 0} (g : Grammar A) (value : V → A) (after : R → List Token) (ts mid : List Token)
    (old new : List V) (r : R) → HasListed g ts (map value old) mid
    → Puts (behind_token (sign 44) g) value after mid old new (Some r) → HasListed g ts (map value new) (after r)
put_next g value after ts mid old new r h p =
    subst (λ xs. HasListed g ts xs (after r)) (sym p.1) (listed_more g ts mid (after r) (map value old) p.0 h p.2)

-- Fewer tokens are left behind it.
pub put_fewer : {A V R : Type 0} (g : Grammar A) (value : V → A) (after : R → List Token) (ts : List Token)
    (old new : List V) (r : R) → Puts (behind_token (sign 44) g) value after ts old new (Some r)
    → length (after r) < length ts
put_fewer g value after ts old new r p = fewer_left (behind_token (sign 44) g) ts (after r) p.0 (omega arith) p.2

-- No further one was there.
pub put_last : {A V R : Type 0} (g : Grammar A) (value : V → A) (after : R → List Token) (ts mid : List Token)
    (old new : List V) → HasListed g ts (map value old) mid
    → Puts {R = R} (behind_token (sign 44) g) value after mid old new None → Begins (commas g) ts (map value new) mid
put_last g value after ts mid old new h p =
    subst (λ l. Begins (commas g) ts (map value l) mid) (sym p.1) (commas_found g ts mid (map value old) h p.0)

-- ---- values between two tokens

-- values parted by commas, between two tokens
abbrev pub enclosed : {A : Type 0} → Token → Token → Grammar A → Grammar (List A × Unit {0})
enclosed o c g = behind_token o (pair (commas g) (behind_token c empty))

pub empty_one : IsOne empty
empty_one ts a b r s x y = (refl, sym x.joined ∙ y.joined)

last_before : {A : Type 0} (t : Token) (g : Grammar A) → IsBefore t g → (a : A) (xs : List A) (r : List Token)
    → g.IsAllowed a → AllByRecursion g.IsAllowed xs → MayFollowLast g a xs (t ∷ r)
last_before t g before a [] r h k = before a r h
last_before t g before a (x ∷ xs) r h k = last_before t g before x xs r k.0 k.1

-- a token may stand behind values parted by commas
pub all_before : {A : Type 0} (t : Token) (g : Grammar A) → IsBefore t g → (t ≡ sign 44 → ⊥) → IsBefore t (commas g)
all_before t g before other [] r h = tt
all_before t g before other (x ∷ xs) r h =
    (last_before t g before x xs r h.1.0 h.1.1, λ a s b. other (head_same _ _ _ _ b.joined))

pub enclosed_joins : {A : Type 0} (c : Token) (g : Grammar A) → IsListable g c → Joins (commas g) (behind_token c empty)
enclosed_joins c g h xs u r k l m = all_before c g h.closing h.other xs r k

pub inside_one : {A : Type 0} (c : Token) (g : Grammar A) → IsListable g c
    → IsOne (pair (commas g) (behind_token c empty))
inside_one c g h =
    pair_one (commas g) (behind_token c empty) (enclosed_joins c g h) (commas_one g h.comma h.one)
    (behind_one empty c empty_one)

pub inside_without : {A : Type 0} (c : Token) (g : Grammar A) → IsListable g c → (inner : List Token)
    → HasNone (commas g) inner → HasNone (pair (commas g) (behind_token c empty)) inner
inside_without c g h inner none = pair_none (commas g) (behind_token c empty) (enclosed_joins c g h) inner none

pub inside_open : {A : Type 0} (c : Token) (g : Grammar A) → IsListable g c → (inner mid : List Token) (xs : List A)
    → Begins (commas g) inner xs mid → IsNotNext c mid → HasNone (pair (commas g) (behind_token c empty)) inner
inside_open c g h inner mid xs b close =
    pair_none_behind (commas g) (behind_token c empty) (commas_one g h.comma h.one)
    (enclosed_joins c g h) inner mid xs b
    (behind_other empty c mid close)

-- the first value between the tokens
pub first_inside : {A : Type 0} (o c : Token) (g : Grammar A) (ts : List Token) (a : A) (xs : List A) (u : Unit {0})
    (r : List Token) → Begins (enclosed o c g) ts (a ∷ xs, u) r
    → (others : List Token) × (ts ≡ o ∷ (g.spells a ++ others))
first_inside o c g ts a xs u r b = grind (arith, append_assoc)

-- ---- values parted by commas, between `(` and `)`

to_enclosed : {A : Type 0} (g : Grammar A) (ts : List Token) (a : A) (xs : List A) (r : List Token)
    → Begins (parentheses g) ts (a ∷ xs) r → Begins (enclosed (sign 40) (sign 41) g) ts (a ∷ xs, tt) r
to_enclosed g ts a xs r b = record { joined = b.joined; allowed = ((omega arith, b.allowed), tt); follows = tt }

-- no value stands where the parentheses are empty
not_empty : {A : Type 0} (g : Grammar A) → IsListable g (sign 41)
    → (ts : List Token) (rest : List Token) (a : A) (xs : List A) (r : List Token) → ts ≡ sign 40 ∷ sign 41 ∷ rest
    → Begins (parentheses g) ts (a ∷ xs) r → ⊥
not_empty g h ts rest a xs r e b =
    let f = first_inside (sign 40) (sign 41) g ts a xs tt r (to_enclosed g ts a xs r b) in
    h.opens a f.0 rest b.allowed.0 (tail_same _ _ _ _ (sym f.1 ∙ e))

pub parentheses_one : {A : Type 0} (g : Grammar A) → IsListable g (sign 41) → IsOne (parentheses g)
parentheses_one g h ts [] [] r s x y = (refl, tail_same _ _ _ _ (tail_same _ _ _ _ (sym x.joined ∙ y.joined)))
parentheses_one g h ts [] (b ∷ bs) r s x y = absurd (not_empty g h ts r b bs s x.joined y)
parentheses_one g h ts (a ∷ xs) [] r s x y = absurd (not_empty g h ts s a xs r y.joined x)
parentheses_one g h ts (a ∷ xs) (b ∷ bs) r s x y =
    let same =
    behind_one _ (sign 40) (inside_one (sign 41) g h) ts (a ∷ xs, tt) (b ∷ bs, tt) r s (to_enclosed g ts a xs r x)
    (to_enclosed g ts b bs s y) in
    (ap (λ z. z.0) same.0, same.1)

none_inside : {A : Type 0} (g : Grammar A) (ts inner : List Token) → ts ≡ sign 40 ∷ inner → IsNotNext (sign 41) inner
    → HasNone (pair (commas g) (behind_token (sign 41) empty)) inner → HasNone (parentheses g) ts
none_inside g ts inner e other none [] r b = other r (tail_same _ _ _ _ (sym e ∙ b.joined))
none_inside g ts inner e other none (a ∷ xs) r b =
    behind_none _ (sign 40) ts inner e none (a ∷ xs, tt) r (to_enclosed g ts a xs r b)

pub parentheses_without : {A : Type 0} (g : Grammar A) → IsListable g (sign 41) → (ts inner : List Token)
    → ts ≡ sign 40 ∷ inner → IsNotNext (sign 41) inner → HasNone (commas g) inner → HasNone (parentheses g) ts
parentheses_without g h ts inner e other none = none_inside g ts inner e other (inside_without (sign 41) g h inner none)

pub parentheses_open : {A : Type 0} (g : Grammar A) → IsListable g (sign 41) → (ts inner mid : List Token) (xs : List A)
    → ts ≡ sign 40 ∷ inner → IsNotNext (sign 41) inner → Begins (commas g) inner xs mid → IsNotNext (sign 41) mid
    → HasNone (parentheses g) ts
parentheses_open g h ts inner mid xs e other b close =
    none_inside g ts inner e other (inside_open (sign 41) g h inner mid xs b close)
