-- What a subtyping asks is what two rows ask, place by place, by the signs of their shape.
use Rattle.std.proofs.Common.{◌≡◌, ℕ, zero, suc, ◌<◌, List, [], ◌∷◌, ◌++◌, length, length-append, refl, sym, ap, ◌∙◌, subst, arith, ⊎_elim, inl, inr, ◌↔◌, ◌⊎◌, Bool, Some, None}
use Rattle.std.specs.Prelude.{slice_get}
use Rattle.nll_types.specs.Types.{TypeTree, TypeTrees, int, parameter, reference, tuple, named, function, none, more, type_at}
use Rattle.nll_types.specs.Rows.{region_row, region_rows}
use Rattle.nll_types.specs.Shapes.{Shape, ShapeList, shape_of, shapes_of}
use Rattle.nll_types.specs.Structs.{Struct, struct_at}
use Rattle.nll_types.specs.declared.parameter.Parameter.{Parameter}
use Rattle.nll_types.specs.declared.parameter.Sign.{Sign}
use Rattle.nll_types.specs.declared.parameter.Sign.TheVariants.{Covariant, Contravariant, Invariant}
use Rattle.nll_rules.specs.Pairs.{AtOne}
use Rattle.nll_rules.specs.Positions.{sign_or, target_sign, times}
use Rattle.nll_rules.specs.Signs.{RowsAsk, all_signs, sign_row, row_signs_of}
use Rattle.nll_rules.specs.Subtyping.{IsAsked, SubtypeAsksBehind}
use Rattle.nll_rules.proofs.SubtypeLemmas.{ArgumentAsks, asked_as, asked_of, asks_function, asks_named, asks_reference, asks_tuple, get_below, int_asks, parameter_asks, some_is, times_covariant}

both_ways : {A B C : Type 0} → A ↔ B → B ↔ C → A ↔ C
both_ways f g = (λ a. g.0 (f.0 a), λ c. f.1 (g.1 c))

turned : {A B : Type 0} → A ↔ B → B ↔ A
turned f = (f.1, f.0)

sums : {A B C D : Type 0} → A ↔ C → B ↔ D → (A ⊎ B) ↔ (C ⊎ D)
sums f g = (⊎_elim (λ a. inl (f.0 a)) (λ b. inr (g.0 b)), ⊎_elim (λ c. inl (f.1 c)) (λ d. inr (g.1 d)))

swapped : {A B C D : Type 0} → A ↔ C → B ↔ D → (A ⊎ B) ↔ (D ⊎ C)
swapped f g = (⊎_elim (λ a. inr (f.0 a)) (λ b. inl (g.0 b)), ⊎_elim (λ d. inr (g.1 d)) (λ c. inl (f.1 c)))

neither : {A B : Type 0} → (A → ⊥) → (B → ⊥) → A ↔ B
neither f g = (λ a. absurd (f a), λ b. absurd (g b))

-- ---- rows behind one another

pub get_left : {X : Type 0} (xs ys : List X) (k : ℕ) (x : X) → slice_get xs k ≡ Some x → slice_get (xs ++ ys) k ≡ Some x
get_left [] ys k x e = absurd cc
get_left (z ∷ xs) ys zero x e = e
get_left (z ∷ xs) ys (suc k) x e = get_left xs ys k x e

rows_none : (rs qs : List ℕ) (x : ℕ × ℕ) → RowsAsk [] rs qs x → ⊥
rows_none rs qs x w = (let e : None ≡ Some w.3 = w.6 in cc)

further : (s : Sign) (ss : List Sign) (a b : ℕ) (rs qs : List ℕ) (x : ℕ × ℕ) → RowsAsk ss rs qs x
    → RowsAsk (s ∷ ss) (a ∷ rs) (b ∷ qs) x
further s ss a b rs qs x w = (suc w.0, w.1, w.2, w.3, w.4, w.5, w.6, w.7)

rows_one : (s : Sign) (a b : ℕ) (x : ℕ × ℕ) → IsAsked s a b x ↔ RowsAsk (s ∷ []) (a ∷ []) (b ∷ []) x
rows_one s a b x = (λ h. (0, a, b, s, refl, refl, refl, h), λ w. only w.0 w.1 w.2 w.3 w.4 w.5 w.6 w.7)
  where
    only : (k c d : ℕ) (z : Sign) → slice_get (a ∷ []) k ≡ Some c → slice_get (b ∷ []) k ≡ Some d
        → slice_get (s ∷ []) k ≡ Some z → IsAsked z c d x → IsAsked s a b x
    only zero c d z e f g h =
        asked_as z s a b x (sym (some_is s z g)) (asked_of z c d a b x (sym (some_is a c e)) (sym (some_is b d f)) h)
    only (suc k) c d z e f g h = absurd cc

module _ (zs : List Sign) (cs ds : List ℕ) (x : ℕ × ℕ) where
  split : (ss : List Sign) (rs qs : List ℕ) → length ss ≡ length rs → length ss ≡ length qs → (k a b : ℕ) (s : Sign)
      → slice_get (rs ++ cs) k ≡ Some a → slice_get (qs ++ ds) k ≡ Some b → slice_get (ss ++ zs) k ≡ Some s
      → IsAsked s a b x → RowsAsk ss rs qs x ⊎ RowsAsk zs cs ds x
  split [] [] [] l m k a b s d e f h = inr (k, a, b, s, d, e, f, h)
  split (y ∷ ss) (r ∷ rs) (q ∷ qs) l m zero a b s d e f h = inl (0, a, b, s, d, e, f, h)
  split (y ∷ ss) (r ∷ rs) (q ∷ qs) l m (suc k) a b s d e f h =
      ⊎_elim (λ w. inl (further y ss r q rs qs x w)) inr
      (split ss rs qs (omega arith) (omega arith) k a b s d e f h)
  split ss rs qs l m k a b s d e f h = absurd (omega arith)

  behind : (ss : List Sign) (rs qs : List ℕ) → length ss ≡ length rs → length ss ≡ length qs → RowsAsk zs cs ds x
      → RowsAsk (ss ++ zs) (rs ++ cs) (qs ++ ds) x
  behind [] [] [] l m w = w
  behind (y ∷ ss) (r ∷ rs) (q ∷ qs) l m w =
      further y (ss ++ zs) r q (rs ++ cs) (qs ++ ds) x (behind ss rs qs (omega arith) (omega arith) w)
  behind ss rs qs l m w = absurd (omega arith)

  rows_append : (ss : List Sign) (rs qs : List ℕ) → length ss ≡ length rs → length ss ≡ length qs
      → (RowsAsk ss rs qs x ⊎ RowsAsk zs cs ds x) ↔ RowsAsk (ss ++ zs) (rs ++ cs) (qs ++ ds) x
  rows_append ss rs qs l m = (
    ⊎_elim
        (λ w. (w.0, w.1, w.2, w.3, get_left rs cs _ _ w.4, get_left qs ds _ _ w.5, get_left ss zs _ _ w.6, w.7))
        (behind ss rs qs l m),
    λ w. split ss rs qs l m w.0 w.1 w.2 w.3 w.4 w.5 w.6 w.7,
  )

-- ---- how many signs there are

pub sign_row_count : (sign : ℕ → Sign) (n : ℕ) → length (sign_row sign n) ≡ n
sign_row_count sign zero = refl
sign_row_count sign (suc n) = (let h = sign_row_count (λ k. sign (suc k)) n in omega arith)

sign_at : (sign : ℕ → Sign) (n k : ℕ) → k < n → slice_get (sign_row sign n) k ≡ Some (sign k)
sign_at sign zero k l = absurd (omega arith)
sign_at sign (suc n) zero l = refl
sign_at sign (suc n) (suc k) l = sign_at (λ j. sign (suc j)) n k (omega arith)

joined : {X Y : Type 0} (as' bs : List X) (cs ds : List Y) → length as' ≡ length cs → length bs ≡ length ds
    → length (as' ++ bs) ≡ length (cs ++ ds)
joined as' bs cs ds l m = omega (arith, length-append as' bs, length-append cs ds)

module _ (structs : List Struct) where
  mutual
    -- a type has as many signs as its row has regions
    pub sign_count : (outer : Sign) (t : TypeTree) → length (row_signs_of structs outer (shape_of t)) ≡ length
        (region_row t)
    sign_count outer int = refl
    sign_count outer (parameter k) = refl
    sign_count outer (reference r m t) = joined _ _ _ _ (sign_count (times outer (target_sign m)) t) refl
    sign_count outer (tuple ts) = all_sign_count (λ k. outer) ts
    sign_count outer (named s rs ts) = joined _ _ _ _ (all_sign_count _ ts) (sign_row_count _ (length rs))
    sign_count outer (function ts t) = joined _ _ _ _ (all_sign_count _ ts) (sign_count outer t)

    all_sign_count : (sign : ℕ → Sign) (ts : TypeTrees)
        → length (all_signs structs sign (shapes_of ts)) ≡ length (region_rows ts)
    all_sign_count sign none = refl
    all_sign_count sign (more t ts) =
        joined _ _ _ _ (sign_count (sign 0) t) (all_sign_count (λ k. sign (suc k)) ts)

  -- and so has each type of its shape
  other_count : (outer : Sign) (t u : TypeTree) → shape_of t ≡ shape_of u
      → length (row_signs_of structs outer (shape_of t)) ≡ length (region_row u)
  other_count outer t u e = ap (λ (s : Shape). length (row_signs_of structs outer s)) e ∙ sign_count outer u

  all_other_count : (sign : ℕ → Sign) (ts us : TypeTrees) → shapes_of ts ≡ shapes_of us
      → length (all_signs structs sign (shapes_of ts)) ≡ length (region_rows us)
  all_other_count sign ts us e = ap (λ (s : ShapeList). length (all_signs structs sign s)) e ∙ all_sign_count sign us

  -- ---- types in a row

  -- the types at a place, which has this sign, ask the pair
  abbrev TypesAsk : (ℕ → Sign) → TypeTrees → TypeTrees → ℕ × ℕ → ℕ → Type 0
  TypesAsk sign ts us x k = (t u : TypeTree) × (type_at ts k ≡ Some t) × (type_at us k ≡ Some u)
      × SubtypeAsksBehind structs (sign k) t u x

  abbrev AllAsk : (ℕ → Sign) → TypeTrees → TypeTrees → ℕ × ℕ → Type 0
  AllAsk sign ts us x = (k : ℕ) × TypesAsk sign ts us x k

  all_as : (f g : ℕ → Sign) (ts us : TypeTrees) (x : ℕ × ℕ) → ((k : ℕ) → f k ≡ g k) → AllAsk f ts us x
      → AllAsk g ts us x
  all_as f g ts us x same w = grind arith

  all_none : (sign : ℕ → Sign) (us : TypeTrees) (x : ℕ × ℕ) → AllAsk sign none us x → ⊥
  all_none sign us x w = (let y = w.1 in let e : None ≡ Some y.0 = y.2 in cc)

  all_more : (sign : ℕ → Sign) (t u : TypeTree) (ts us : TypeTrees) (x : ℕ × ℕ)
      → AllAsk sign (more t ts) (more u us) x
      ↔ (SubtypeAsksBehind structs (sign 0) t u x ⊎ AllAsk (λ k. sign (suc k)) ts us x)
  all_more sign t u ts us x = grind (arith, at)
    where
      at : (k : ℕ) → TypesAsk sign (more t ts) (more u us) x k
          → SubtypeAsksBehind structs (sign 0) t u x ⊎ AllAsk (λ k. sign (suc k)) ts us x
      at zero y =
          inl (subst (λ (z : TypeTree). SubtypeAsksBehind structs (sign 0) z u x) (sym (some_is t y.0 y.2))
          (subst (λ (z : TypeTree). SubtypeAsksBehind structs (sign 0) y.0 z x) (sym (some_is u y.1 y.3)) y.4))
      at (suc k) y = inr (k, y)

  -- ---- region arguments

  arguments_ask : (parameters : List Parameter) (outer : Sign) (rs qs : List ℕ) (x : ℕ × ℕ)
      → AtOne (ArgumentAsks parameters outer rs qs) x
      ↔ RowsAsk (sign_row (λ k. times outer (sign_or parameters k Invariant)) (length rs)) rs qs x
  arguments_ask parameters outer rs qs x = (
    λ w. (let y = w.1 in
        (w.0, y.0, y.1, sign w.0, y.2, y.3, sign_at sign (length rs) w.0 (get_below rs w.0 y.0 y.2), y.4)),
    λ w. (
      w.0,
      (
        w.1,
        w.2,
        w.4,
        w.5,
        asked_as w.3 (sign w.0) w.1 w.2 x
            (some_is w.3 (sign w.0) (sym w.6 ∙ sign_at sign (length rs) w.0 (get_below rs w.0 w.1 w.4))) w.7,
      ),
    ),
  )
    where
      sign : ℕ → Sign
      sign k = times outer (sign_or parameters k Invariant)

  -- ---- types of one shape

  mutual
    -- what a subtyping of types of one shape asks is what their rows ask
    pub rows_ask : (outer : Sign) (t u : TypeTree) (x : ℕ × ℕ) → shape_of t ≡ shape_of u
        → SubtypeAsksBehind structs outer t u x
        ↔ RowsAsk (row_signs_of structs outer (shape_of t)) (region_row t) (region_row u) x
    rows_ask outer int int x e = neither (int_asks structs outer int x) (rows_none [] [] x)
    rows_ask outer (parameter j) (parameter k) x e =
        neither (parameter_asks structs outer j (parameter k) x) (rows_none [] [] x)
    rows_ask outer (reference q m t) (reference p n u) x e =
        let flag : m ≡ n = cc in
        let inner : shape_of t ≡ shape_of u = cc in
        let sign = times outer (target_sign m) in
        subst (λ (z : Bool). SubtypeAsksBehind structs outer (reference q m t) (reference p z u) x
        ↔ RowsAsk (row_signs_of structs sign (shape_of t) ++ outer ∷ []) (region_row t ++ q ∷ []) (region_row u ++ p
        ∷ []) x)
        flag
        (both_ways (turned (asks_reference structs outer q p m t u x))
        (both_ways (swapped (rows_one outer q p x) (rows_ask sign t u x inner))
        (rows_append (outer ∷ []) (q ∷ []) (p ∷ []) x (row_signs_of structs sign (shape_of t)) (region_row t)
        (region_row u)
        (sign_count sign t) (other_count sign t u inner))))
    rows_ask outer (tuple ts) (tuple us) x e =
        let inner : shapes_of ts ≡ shapes_of us = cc in
        let same = λ (k : ℕ). times_covariant outer in
        both_ways (turned (asks_tuple structs outer ts us x))
        (both_ways (
          all_as (λ k. times outer Covariant) (λ k. outer) ts us x same,
          all_as (λ k. outer) (λ k. times outer Covariant) ts us x (λ k. sym (same k)),
        ) (all_rows_ask (λ k. outer) ts us x inner))
    rows_ask outer (named s rs ts) (named n qs us) x e =
        let inner : shapes_of ts ≡ shapes_of us = cc in
        let name : s ≡ n = cc in
        let count : length rs ≡ length qs = cc in
        let d = struct_at structs s in
        let sign : ℕ → Sign = λ k. times outer (sign_or d.types k Invariant) in
        let own : List Sign = sign_row (λ k. times outer (sign_or d.regions k Invariant)) (length rs) in
        subst (λ (z : ℕ). SubtypeAsksBehind structs outer (named s rs ts) (named z qs us) x
        ↔ RowsAsk (all_signs structs sign (shapes_of ts) ++ own) (region_rows ts ++ rs) (region_rows us ++ qs) x) name
        (both_ways (turned (asks_named structs outer s rs qs ts us x))
        (both_ways (swapped (arguments_ask d.regions outer rs qs x) (all_rows_ask sign ts us x inner))
        (rows_append own rs qs x (all_signs structs sign (shapes_of ts)) (region_rows ts) (region_rows us)
        (all_sign_count sign ts) (all_other_count sign ts us inner))))
    rows_ask outer (function ts t) (function us u) x e =
        let first : shapes_of ts ≡ shapes_of us = cc in
        let last : shape_of t ≡ shape_of u = cc in
        let sign : ℕ → Sign = λ k. times outer Contravariant in
        both_ways (turned (asks_function structs outer ts us t u x))
        (both_ways (sums (all_rows_ask sign ts us x first) (rows_ask outer t u x last))
        (rows_append (row_signs_of structs outer (shape_of t)) (region_row t) (region_row u) x
        (all_signs structs sign (shapes_of ts)) (region_rows ts) (region_rows us)
        (all_sign_count sign ts) (all_other_count sign ts us first)))
    rows_ask outer t u x e = absurd cc

    pub all_rows_ask : (sign : ℕ → Sign) (ts us : TypeTrees) (x : ℕ × ℕ) → shapes_of ts ≡ shapes_of us
        → AllAsk sign ts us x ↔ RowsAsk (all_signs structs sign (shapes_of ts)) (region_rows ts) (region_rows us) x
    all_rows_ask sign none none x e = neither (all_none sign none x) (rows_none [] [] x)
    all_rows_ask sign (more t ts) (more u us) x e =
        let here : shape_of t ≡ shape_of u = cc in
        let rest : shapes_of ts ≡ shapes_of us = cc in
        let later : ℕ → Sign = λ k. sign (suc k) in
        both_ways (all_more sign t u ts us x)
        (both_ways (sums (rows_ask (sign 0) t u x here) (all_rows_ask later ts us x rest))
        (rows_append (all_signs structs later (shapes_of ts)) (region_rows ts) (region_rows us) x
        (row_signs_of structs (sign 0) (shape_of t)) (region_row t) (region_row u)
        (sign_count (sign 0) t) (other_count (sign 0) t u here)))
    all_rows_ask sign none (more u us) x e = absurd cc
    all_rows_ask sign (more t ts) none x e = absurd cc
