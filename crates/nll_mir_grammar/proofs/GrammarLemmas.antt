-- Grammars that are made of others.
use Rattle.std.proofs.Common.{◌≡◌, ℕ, ◌<◌, ◌+◌, false, eqb, List, [], ◌∷◌, ◌++◌, length, refl, sym, ap, ◌∙◌, subst, append_assoc, arith}
use Rattle.std.specs.List.{AllByRecursion, flat_map}
use Rattle.std.specs.Prelude.{Option, Some, None, Result, Ok, Err, IfOk, MatchOption}
use Rattle.std.proofs.lemmas.Bool.{eq-eqb, false≢true}
use Rattle.std.proofs.lemmas.List.{length-append}
use Rattle.std.proofs.lemmas.Grind.{flat_map-append}
use Rattle.nll_text.specs.Tokens.{Token, sign}
use Rattle.nll_text.specs.Grammars.{Grammar, Begins, HasNone, IsNotNext}
use Rattle.nll_mir_grammar.specs.Grammars.{both, IsOne, behind_token, pair, many, by_kind}

-- ---- tokens

pub tail_same : {A : Type 0} (x y : A) (xs ys : List A) → x ∷ xs ≡ y ∷ ys → xs ≡ ys
tail_same x y xs ys e = cc

pub head_same : {A : Type 0} (x y : A) (xs ys : List A) → x ∷ xs ≡ y ∷ ys → x ≡ y
head_same x y xs ys e = cc

-- two signs
pub signs_apart : (a b : ℕ) → eqb a b ≡ false → sign a ≡ sign b → ⊥
signs_apart a b n e = let h : a ≡ b = cc in false≢true (sym n ∙ eq-eqb a b h)

-- two lists that begin with two signs
pub signs_differ : (a b : ℕ) (xs ys : List Token) → eqb a b ≡ false → sign a ∷ xs ≡ sign b ∷ ys → ⊥
signs_differ a b xs ys n e = signs_apart a b n (head_same _ _ xs ys e)

-- ---- a token, and then a value

pub behind_found : {A : Type 0} (g : Grammar A) (t : Token) (ts rest : List Token) (a : A) (r : List Token)
    → ts ≡ t ∷ rest → Begins g rest a r → Begins (behind_token t g) ts a r
behind_found g t ts rest a r e b =
    record { joined = e ∙ ap (λ l. t ∷ l) b.joined; allowed = b.allowed; follows = b.follows }

pub behind_back : {A : Type 0} (g : Grammar A) (t : Token) (ts rest : List Token) (a : A) (r : List Token)
    → ts ≡ t ∷ rest → Begins (behind_token t g) ts a r → Begins g rest a r
behind_back g t ts rest a r e b = grind (arith, tail_same)

pub behind_none : {A : Type 0} (g : Grammar A) (t : Token) (ts rest : List Token) → ts ≡ t ∷ rest → HasNone g rest
    → HasNone (behind_token t g) ts
behind_none g t ts rest e none a r b = none a r (behind_back g t ts rest a r e b)

pub behind_other : {A : Type 0} (g : Grammar A) (t : Token) (ts : List Token) → IsNotNext t ts
    → HasNone (behind_token t g) ts
behind_other g t ts other a r b = other (g.spells a ++ r) b.joined

pub behind_one : {A : Type 0} (g : Grammar A) (t : Token) → IsOne g → IsOne (behind_token t g)
behind_one g t one ts a b r s x y = one (g.spells a ++ r) a b r s
    (record { joined = refl; allowed = x.allowed; follows = x.follows })
    (record {
      joined = tail_same t t (g.spells a ++ r) (g.spells b ++ s) (sym x.joined ∙ y.joined);
      allowed = y.allowed;
      follows = y.follows;
    })

-- ---- a value, and then another

-- the second value may stand behind the first
abbrev pub Joins : {A B : Type 0} → Grammar A → Grammar B → Type 0
Joins {A} {B} g h = (a : A) (b : B) (r : List Token) → g.IsAllowed a → h.IsAllowed b → h.MayFollow b r
    → g.MayFollow a (h.spells b ++ r)

pub pair_found : {A B : Type 0} (g : Grammar A) (h : Grammar B) (ts mid rest : List Token) (a : A) (b : B)
    → Begins g ts a mid → Begins h mid b rest → Begins (pair g h) ts (a, b) rest
pair_found g h ts mid rest a b x y = grind (arith, append_assoc)

-- the first value of a pair
pub pair_front : {A B : Type 0} (g : Grammar A) (h : Grammar B) → Joins g h → (ts rest : List Token) (p : A × B)
    → Begins (pair g h) ts p rest → Begins g ts p.0 (h.spells p.1 ++ rest)
pair_front g h joins ts rest p x = grind (arith, append_assoc)

-- the second value of a pair
pub pair_back : {A B : Type 0} (g : Grammar A) (h : Grammar B) (ts rest : List Token) (p : A × B)
    → Begins (pair g h) ts p rest → Begins h (h.spells p.1 ++ rest) p.1 rest
pair_back g h ts rest p x = record { joined = refl; allowed = x.allowed.1; follows = x.follows }

pub pair_none : {A B : Type 0} (g : Grammar A) (h : Grammar B) → Joins g h → (ts : List Token) → HasNone g ts
    → HasNone (pair g h) ts
pair_none g h joins ts none p r x = none p.0 (h.spells p.1 ++ r) (pair_front g h joins ts r p x)

pub pair_none_behind : {A B : Type 0} (g : Grammar A) (h : Grammar B) → IsOne g → Joins g h
    → (ts mid : List Token) (a : A) → Begins g ts a mid → HasNone h mid → HasNone (pair g h) ts
pair_none_behind g h one joins ts mid a x none p r y =
    let same = one ts a p.0 mid (h.spells p.1 ++ r) x (pair_front g h joins ts r p y) in
    none p.1 r (subst (λ l. Begins h l p.1 r) (sym same.1) (pair_back g h ts r p y))

pub pairs_same : {A B : Type 0} (p q : A × B) → p.0 ≡ q.0 → p.1 ≡ q.1 → p ≡ q
pairs_same {A} {B} p q e f = ap (λ (z : A). (z, p.1)) e ∙ ap (λ (z : B). (q.0, z)) f

pub pair_one : {A B : Type 0} (g : Grammar A) (h : Grammar B) → Joins g h → IsOne g → IsOne h → IsOne (pair g h)
pair_one g h joins first second ts p q r s x y =
    let same = first ts p.0 q.0 _ _ (pair_front g h joins ts r p x) (pair_front g h joins ts s q y) in
    let next =
    second (h.spells p.1 ++ r) p.1 q.1 r s (pair_back g h ts r p x)
    (subst (λ l. Begins h l q.1 s) (sym same.1) (pair_back g h ts s q y)) in
    (pairs_same p q same.0 next.0, next.1)

-- ---- values, as many as there are

-- Values were read, and the rest is left.
pub record HasRead {A : Type 0} (g : Grammar A) (ts : List Token) (xs : List A) (rest : List Token) : Type 0 where
  pub joined : ts ≡ flat_map g.spells xs ++ rest
  pub allowed : AllByRecursion g.IsAllowed xs

pub nothing_read : {A : Type 0} (g : Grammar A) (ts : List Token) → HasRead g ts [] ts
nothing_read g ts = record { joined = refl; allowed = tt }

pub all_push : {A : Type 0} (P : A → Type 0) (xs : List A) (x : A) → AllByRecursion P xs → P x
    → AllByRecursion P (xs ++ x ∷ [])
all_push P [] x h p = (p, tt)
all_push P (y ∷ xs) x h p = (h.0, all_push P xs x h.1 p)

pub append_nil : {A : Type 0} (xs : List A) → xs ++ [] ≡ xs
append_nil [] = refl
append_nil (x ∷ xs) = ap (λ l. x ∷ l) (append_nil xs)

pub flat_map_push : {A B : Type 0} (f : A → List B) (xs : List A) (a : A)
    → flat_map f (xs ++ a ∷ []) ≡ flat_map f xs ++ f a
flat_map_push f xs a = flat_map-append f xs (a ∷ []) ∙ ap (λ l. flat_map f xs ++ l) (append_nil (f a))

pub read_more : {A : Type 0} (g : Grammar A) (ts mid rest : List Token) (xs : List A) (a : A) → HasRead g ts xs mid
    → Begins g mid a rest → HasRead g ts (xs ++ a ∷ []) rest
read_more g ts mid rest xs a h b = grind (arith, append_assoc, flat_map_push, all_push)

pub many_found : {A : Type 0} (g : Grammar A) (ts rest : List Token) (xs : List A) → HasRead g ts xs rest
    → HasNone g rest → Begins (many g) ts xs rest
many_found g ts rest xs h none = record { joined = h.joined; allowed = h.allowed; follows = none }

-- anything may stand behind a value
abbrev pub IsLoose : {A : Type 0} → Grammar A → Type 0
IsLoose {A} g = (a : A) (r : List Token) → g.MayFollow a r

-- the first of many values
first_of : {A : Type 0} (g : Grammar A) → IsLoose g → (ts : List Token) (x : A) (xs : List A) (r : List Token)
    → Begins (many g) ts (x ∷ xs) r → Begins g ts x (flat_map g.spells xs ++ r)
first_of g loose ts x xs r b = grind (arith, append_assoc)

-- the other values
others_of : {A : Type 0} (g : Grammar A) (ts : List Token) (x : A) (xs : List A) (r : List Token)
    → Begins (many g) ts (x ∷ xs) r → Begins (many g) (flat_map g.spells xs ++ r) xs r
others_of g ts x xs r b = record { joined = refl; allowed = b.allowed.1; follows = b.follows }

pub many_one : {A : Type 0} (g : Grammar A) → IsLoose g → IsOne g → IsOne (many g)
many_one g loose one ts [] [] r s x y = (refl, sym x.joined ∙ y.joined)
many_one g loose one ts [] (b ∷ bs) r s x y =
    absurd (x.follows b _ (subst (λ l. Begins g l b (flat_map g.spells bs ++ s)) x.joined
    (first_of g loose ts b bs s y)))
many_one g loose one ts (a ∷ xs) [] r s x y =
    absurd (y.follows a _ (subst (λ l. Begins g l a (flat_map g.spells xs ++ r)) y.joined
    (first_of g loose ts a xs r x)))
many_one g loose one ts (a ∷ xs) (b ∷ bs) r s x y =
    let same = one ts a b _ _ (first_of g loose ts a xs r x) (first_of g loose ts b bs s y) in
    let next =
    many_one g loose one (flat_map g.spells xs ++ r) xs bs r s (others_of g ts a xs r x)
    (subst (λ l. Begins (many g) l bs s) (sym same.1) (others_of g ts b bs s y)) in
    let e = same.0 in let f = next.0 in
    (cc, next.1)

-- ---- how many tokens are left

-- each value has tokens
abbrev pub IsSolid : {A : Type 0} → Grammar A → Type 0
IsSolid {A} g = (a : A) → 0 < length (g.spells a)

-- behind a value that has tokens there are fewer
pub fewer_left : {A : Type 0} (g : Grammar A) (ts rest : List Token) (a : A) → 0 < length (g.spells a)
    → Begins g ts a rest → length rest < length ts
fewer_left g ts rest a some b =
    let n : length ts ≡ length (g.spells a) + length rest = ap length b.joined ∙ length-append (g.spells a) rest in
    omega (arith, n, some)

-- ---- a value by its kind

pub kinds_one : {K : Type 0} (P : K → Type 0) (g : (k : K) → Grammar (P k)) → ((k : K) → IsOne (g k))
    → ((k l : K) (p : P k) (q : P l) (r s : List Token) → (g k).IsAllowed p → (g l).IsAllowed q
    → (g k).spells p ++ r ≡ (g l).spells q ++ s → k ≡ l)
    → IsOne (by_kind P g)
kinds_one {K} P g one apart ts p q r s x y =
    let e : p.0 ≡ q.0 = apart p.0 q.0 p.1 q.1 r s x.allowed y.allowed (sym x.joined ∙ y.joined) in
    subst (λ (l : K). (b : P l) → Begins (g l) ts b s → (p ≡ (l, b)) × (r ≡ s)) e
    (λ b z. let same = one p.0 ts p.1 b r s
    (record { joined = x.joined; allowed = x.allowed; follows = x.follows }) z in
    (ap (λ (w : P p.0). (p.0, w)) same.0, same.1))
    q.1 (record { joined = y.joined; allowed = y.allowed; follows = y.follows })

-- ---- what readers answer

-- what stands behind a token is read with it
pub read_behind : {A R E : Type 0} (g : Grammar A) (t : Token) (ts rest : List Token) (value : R → A)
    (after : R → List Token) (r : Result (Option R) E) → ts ≡ t ∷ rest
    → IfOk r (λ o. MatchOption o (HasNone g rest) (λ p. Begins g rest (value p) (after p)))
    → IfOk r (λ o. MatchOption o (HasNone (behind_token t g) ts) (λ p. Begins (behind_token t g) ts (value p)
    (after p)))
read_behind g t ts rest value after (Ok None) e h = behind_none g t ts rest e h
read_behind g t ts rest value after (Ok (Some p)) e h = behind_found g t ts rest (value p) (after p) e h
read_behind g t ts rest value after (Err x) e h = tt

-- a value is read, and then another
pub read_pair : {A B V W S E : Type 0} (g : Grammar A) (h : Grammar B) → IsOne g → Joins g h
    → (ts mid : List Token) (v : V) (value : V → A) (other : W → B) (after : S → List Token)
    (r : Result (Option (W × S)) E) → Begins g ts (value v) mid
    → IfOk r (λ o. MatchOption o (HasNone h mid) (λ p. Begins h mid (other p.0) (after p.1)))
    → IfOk (both v r) (λ o. MatchOption o (HasNone (pair g h) ts)
    (λ p. Begins (pair g h) ts (value p.0.0, other p.0.1) (after p.1)))
read_pair g h one joins ts mid v value other after (Ok None) b x = pair_none_behind g h one joins ts mid (value v) b x
read_pair g h one joins ts mid v value other after (Ok (Some (w, s))) b x =
    pair_found g h ts mid (after s) (value v) (other w) b x
read_pair g h one joins ts mid v value other after (Err e) b x = tt
