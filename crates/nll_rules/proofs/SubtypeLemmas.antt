-- What a subtyping asks, layer by layer.
use Rattle.std.proofs.Common.{◌≡◌, ℕ, zero, suc, ◌<◌, List, [], ◌∷◌, length, refl, sym, ap, subst, arith, ⊎_elim, inr, ◌↔◌, ◌⊎◌, Bool, Some}
use Rattle.std.specs.Prelude.{slice_get}
use Rattle.nll_types.specs.Types.{TypeTree, TypeTrees, int, parameter, reference, tuple, named, function, type_at}
use Rattle.nll_types.specs.Structs.{Struct, struct_at}
use Rattle.nll_types.specs.declared.parameter.Parameter.{Parameter}
use Rattle.nll_types.specs.declared.parameter.Sign.{Sign}
use Rattle.nll_types.specs.declared.parameter.Sign.TheVariants.{Covariant, Contravariant, Invariant}
use Rattle.nll_rules.specs.Positions.{Turn, own, target, part, region_argument, type_argument, input, output, HasRegionAt, times, sign_or, target_sign, sign_of}
use Rattle.nll_rules.specs.Subtyping.{IsAsked, SubtypeAsksBehind}
use Rattle.nll_rules.specs.Pairs.{AtOne}

-- the region arguments at a place, for parameters like these, ask the pair
abbrev pub ArgumentAsks : List Parameter → Sign → List ℕ → List ℕ → ℕ → ℕ × ℕ → Type 0
ArgumentAsks parameters outer rs qs k x = (a b : ℕ) × (slice_get rs k ≡ Some a) × (slice_get qs k ≡ Some b)
    × IsAsked (times outer (sign_or parameters k Invariant)) a b x

-- the types at a place, of parts or for parameters like these, ask the pair
abbrev pub TypeAsks : List Struct → List Parameter → Sign → Sign → TypeTrees → TypeTrees → ℕ → ℕ × ℕ → Type 0
TypeAsks structs parameters other outer ts us k x =
    (t u : TypeTree) × (type_at ts k ≡ Some t) × (type_at us k ≡ Some u)
    × SubtypeAsksBehind structs (times outer (sign_or parameters k other)) t u x

times_assoc : (a b c : Sign) → times a (times b c) ≡ times (times a b) c
times_assoc a b c = grind arith

pub times_covariant : (a : Sign) → times a Covariant ≡ a
times_covariant a = grind arith

pub times_invariant : (a : Sign) → times a Invariant ≡ Invariant
times_invariant a = grind arith

-- where two signs are one, what is asked is one
pub asked_as : (s t : Sign) (a b : ℕ) (x : ℕ × ℕ) → s ≡ t → IsAsked s a b x → IsAsked t a b x
asked_as s t a b x p h = subst (λ (z : Sign). IsAsked z a b x) p h

pub asked_of : (s : Sign) (a b c e : ℕ) (x : ℕ × ℕ) → a ≡ c → b ≡ e → IsAsked s a b x → IsAsked s c e x
asked_of s a b c e x q r h = subst (λ (z : ℕ). IsAsked s z e x) q (subst (λ (z : ℕ). IsAsked s a z x) r h)

none_in_int : (way : List Turn) (r : ℕ) → HasRegionAt int way r → ⊥
none_in_int (own ∷ way) r h = h
none_in_int way r h = h

none_in_parameter : (j : ℕ) (way : List Turn) (r : ℕ) → HasRegionAt (parameter j) way r → ⊥
none_in_parameter j (own ∷ way) r h = h
none_in_parameter j way r h = h

pub int_asks : (structs : List Struct) (outer : Sign) (u : TypeTree) (x : ℕ × ℕ)
    → SubtypeAsksBehind structs outer int u x → ⊥
int_asks structs outer u x w = none_in_int w.0 w.1 w.3

pub parameter_asks : (structs : List Struct) (outer : Sign) (j : ℕ) (u : TypeTree) (x : ℕ × ℕ)
    → SubtypeAsksBehind structs outer (parameter j) u x → ⊥
parameter_asks structs outer j u x w = none_in_parameter j w.0 w.1 w.3

-- ---- one layer

-- the pair is asked of the references' own regions, or behind them
pub asks_reference : (structs : List Struct) (outer : Sign) (q p : ℕ) (m : Bool) (t u : TypeTree) (x : ℕ × ℕ)
    → (IsAsked outer q p x ⊎ SubtypeAsksBehind structs (times outer (target_sign m)) t u x)
    ↔ SubtypeAsksBehind structs outer (reference q m t) (reference p m u) x
asks_reference structs outer q p m t u x = (⊎_elim here inside, λ w. back w.0 w.1 w.2 w.3 w.4 w.5)
  where
    here : IsAsked outer q p x → SubtypeAsksBehind structs outer (reference q m t) (reference p m u) x
    here a = (own ∷ [], q, p, (refl, refl), (refl, refl), asked_as _ _ q p x (sym (times_covariant outer)) a)

    inside : SubtypeAsksBehind structs (times outer (target_sign m)) t u x
        → SubtypeAsksBehind structs outer (reference q m t) (reference p m u) x
    inside w =
        let same = sym (times_assoc outer (target_sign m) (sign_of structs w.0)) in
        (target m ∷ w.0, w.1, w.2, (refl, w.3), (refl, w.4), asked_as _ _ w.1 w.2 x same w.5)

    back : (way : List Turn) (a b : ℕ) → HasRegionAt (reference q m t) way a → HasRegionAt (reference p m u) way b
        → IsAsked (times outer (sign_of structs way)) a b x
        → IsAsked outer q p x ⊎ SubtypeAsksBehind structs (times outer (target_sign m)) t u x
    back (own ∷ way) a b h k ask = grind (arith, asked_of, asked_as, times_covariant)
    back (target n ∷ way) a b h k ask = grind (arith, asked_as, times_assoc)
    back way a b h k ask = absurd h

pub asks_tuple : (structs : List Struct) (outer : Sign) (ts us : TypeTrees) (x : ℕ × ℕ)
    → AtOne (TypeAsks structs [] Covariant outer ts us) x ↔ SubtypeAsksBehind structs outer (tuple ts) (tuple us) x
asks_tuple structs outer ts us x = (inside, λ w. back w.0 w.1 w.2 w.3 w.4 w.5)
  where
    inside : AtOne (TypeAsks structs [] Covariant outer ts us) x
        → SubtypeAsksBehind structs outer (tuple ts) (tuple us) x
    inside k =
        let y = k.1 in
        let w = y.4 in
        let same = ap (λ (z : Sign). times z (sign_of structs w.0)) (times_covariant outer) in
        (part k.0 ∷ w.0, w.1, w.2, (y.0, y.2, w.3), (y.1, y.3, w.4), asked_as _ _ w.1 w.2 x same w.5)

    back : (way : List Turn) (a b : ℕ) → HasRegionAt (tuple ts) way a → HasRegionAt (tuple us) way b
        → IsAsked (times outer (sign_of structs way)) a b x → AtOne (TypeAsks structs [] Covariant outer ts us) x
    back (part i ∷ way) a b h k ask = grind (arith, asked_as, times_covariant)
    back way a b h k ask = absurd h

pub asks_named : (structs : List Struct) (outer : Sign) (s : ℕ) (rs qs : List ℕ) (ts us : TypeTrees) (x : ℕ × ℕ)
    → (AtOne (ArgumentAsks (struct_at structs s).regions outer rs qs) x
    ⊎ AtOne (TypeAsks structs (struct_at structs s).types Invariant outer ts us) x)
    ↔ SubtypeAsksBehind structs outer (named s rs ts) (named s qs us) x
asks_named structs outer s rs qs ts us x = (⊎_elim here inside, λ w. back w.0 w.1 w.2 w.3 w.4 w.5)
  where
    here : AtOne (ArgumentAsks (struct_at structs s).regions outer rs qs) x
        → SubtypeAsksBehind structs outer (named s rs ts) (named s qs us) x
    here k =
        let y = k.1 in
        let same = ap (times outer) (sym (times_covariant (sign_or (struct_at structs s).regions k.0 Invariant))) in
        (region_argument s k.0 ∷ [], y.0, y.1, (refl, refl, y.2), (refl, refl, y.3), asked_as _ _ y.0 y.1 x same y.4)

    inside : AtOne (TypeAsks structs (struct_at structs s).types Invariant outer ts us) x
        → SubtypeAsksBehind structs outer (named s rs ts) (named s qs us) x
    inside k =
        let y = k.1 in
        let w = y.4 in
        let same = sym (times_assoc outer (sign_or (struct_at structs s).types k.0 Invariant) (sign_of structs w.0)) in
        let asks = asked_as _ _ w.1 w.2 x same w.5 in
        (type_argument s k.0 ∷ w.0, w.1, w.2, (y.0, refl, y.2, w.3), (y.1, refl, y.3, w.4), asks)

    back : (way : List Turn) (a b : ℕ) → HasRegionAt (named s rs ts) way a → HasRegionAt (named s qs us) way b
        → IsAsked (times outer (sign_of structs way)) a b x
        → AtOne (ArgumentAsks (struct_at structs s).regions outer rs qs) x
        ⊎ AtOne (TypeAsks structs (struct_at structs s).types Invariant outer ts us) x
    back (region_argument n i ∷ way) a b h k ask = grind (arith, asked_as, times_covariant)
    back (type_argument n i ∷ way) a b h k ask = grind (arith, asked_as, times_assoc)
    back way a b h k ask = absurd h

pub asks_function : (structs : List Struct) (outer : Sign) (ts us : TypeTrees) (t u : TypeTree) (x : ℕ × ℕ)
    → (AtOne (TypeAsks structs [] Contravariant outer ts us) x ⊎ SubtypeAsksBehind structs outer t u x)
    ↔ SubtypeAsksBehind structs outer (function ts t) (function us u) x
asks_function structs outer ts us t u x = (⊎_elim inside through, λ w. back w.0 w.1 w.2 w.3 w.4 w.5)
  where
    inside : AtOne (TypeAsks structs [] Contravariant outer ts us) x
        → SubtypeAsksBehind structs outer (function ts t) (function us u) x
    inside k =
        let y = k.1 in
        let w = y.4 in
        let same = sym (times_assoc outer Contravariant (sign_of structs w.0)) in
        (input k.0 ∷ w.0, w.1, w.2, (y.0, y.2, w.3), (y.1, y.3, w.4), asked_as _ _ w.1 w.2 x same w.5)

    through : SubtypeAsksBehind structs outer t u x → SubtypeAsksBehind structs outer (function ts t) (function us u) x
    through w = (output ∷ w.0, w.1, w.2, w.3, w.4, w.5)

    back : (way : List Turn) (a b : ℕ) → HasRegionAt (function ts t) way a → HasRegionAt (function us u) way b
        → IsAsked (times outer (sign_of structs way)) a b x
        → AtOne (TypeAsks structs [] Contravariant outer ts us) x ⊎ SubtypeAsksBehind structs outer t u x
    back (input i ∷ way) a b h k ask = grind (arith, asked_as, times_assoc)
    back (output ∷ way) a b h k ask = inr (way, a, b, h, k, ask)
    back way a b h k ask = absurd h

-- ---- places in rows

pub get_below : {X : Type 0} (xs : List X) (k : ℕ) (x : X) → slice_get xs k ≡ Some x → k < length xs
get_below [] k x e = absurd cc
get_below (y ∷ ys) zero x e = omega arith
get_below (y ∷ ys) (suc k) x e = (let h = get_below ys k x e in omega arith)

pub some_is : {X : Type 0} (a b : X) → Some a ≡ Some b → a ≡ b
some_is a b e = cc
