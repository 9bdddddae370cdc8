-- Drop regions of each form of type, and the sources that they come from.
use Rattle.std.proofs.Common.{◌≡◌, ℕ, ◌+◌, ◌<◌, List, [], ◌∷◌, ◌++◌, length, map, refl, sym, ap, ◌∙◌, subst, arith, Bool, true, false, ◌||◌, inl, inr, ⊎_elim, ◌⊎◌, ◌↔◌, Contains, get_or, not}
use Rattle.std.proofs.lemmas.Bool.{cases_lt, false≢true, true≢false}
use Rattle.std.proofs.lemmas.List.{length-map}
use Rattle.std.proofs.lemmas.Option.{slice_get-get_or, slice_get_within, get_or_from_slice_get}
use Rattle.std.specs.Prelude.{slice_get, Option, Some, IsTrue}
use Rattle.nll_types.specs.Types.{TypeTree, TypeTrees, int, reference, tuple, named, function, type_at, HasRegion, AnyHasRegion}
use Rattle.nll_types.specs.Structs.{Struct, struct_at, field_type, region_in, argument, put_in, put_in_all}
use Rattle.nll_types.specs.DropRegions.{IsOwnDropRegion, IsDropRegion, MustHoldAtDrop}
use Rattle.nll_types.specs.Sources.{Yields, OneYields, AreSourcesOf, IsWantedOf, IsWantedOfOne, AddsSources}
use Rattle.nll_types.specs.Collecting.{IsPutRegion, IsSourceRegion, WantsWritten, WantsDropped}
use Rattle.nll_types.specs.declared.parameter.Parameter.{Parameter}
use Rattle.nll_types.specs.declared.source.Source.{Source}
use Rattle.nll_types.specs.declared.source.Source.TheVariants.{Region, AnyOf, DropOf}
use Rattle.nll_types.proofs.PutLemmas.{region_twice, argument_put, argument_cases, argument_there, type_at_put, type_at_put_back, any_has, has_any, contains_mapped, contains_map}

-- ---- the parameters whose arguments a struct's own drop needs

turned : (b : Bool) → IsTrue (not b) ↔ (b ≡ false)
turned true = (λ h. absurd (false≢true h), λ e. absurd (true≢false e))
turned false = (λ h. refl, λ e. refl)

pub kept_at : (ps : List Parameter) (k : ℕ) (d : Parameter) → k < length ps
    → IsTrue (not (get_or ps k d).may_dangle) ↔ MustHoldAtDrop ps k
kept_at ps k d l = (
  λ h. (get_or ps k d, slice_get-get_or ps k d l, (turned (get_or ps k d).may_dangle).0 h),
  λ w. (turned (get_or ps k d).may_dangle).1
      (ap (λ (p : Parameter). p.may_dangle) (get_or_from_slice_get ps k w.0 d w.1) ∙ w.2),
)

-- ---- forms of type

pub no_drop_int : (structs : List Struct) (r : ℕ) → IsDropRegion structs int r → ⊥
no_drop_int structs r ([], s, rs, ts, l, o) = cc
no_drop_int structs r (n ∷ way, s, rs, ts, l, o) = l.0

pub no_drop_reference : (structs : List Struct) (q : ℕ) (m : Bool) (t : TypeTree) (r : ℕ)
    → IsDropRegion structs (reference q m t) r → ⊥
no_drop_reference structs q m t r ([], s, rs, ts, l, o) = cc
no_drop_reference structs q m t r (n ∷ way, s, rs, ts, l, o) = l.0

pub no_drop_function : (structs : List Struct) (us : TypeTrees) (t : TypeTree) (r : ℕ)
    → IsDropRegion structs (function us t) r → ⊥
no_drop_function structs us t r ([], s, rs, ts, l, o) = cc
no_drop_function structs us t r (n ∷ way, s, rs, ts, l, o) = l.0

pub drop_part : (structs : List Struct) (us : TypeTrees) (r k : ℕ) (u : TypeTree) → type_at us k ≡ Some u
    → IsDropRegion structs u r → IsDropRegion structs (tuple us) r
drop_part structs us r k u e (way, s, rs, ts, l, o) = (u ∷ way, s, rs, ts, ((k, e), l), o)

pub drop_of_part : (structs : List Struct) (us : TypeTrees) (r : ℕ) → IsDropRegion structs (tuple us) r
    → (k : ℕ) × (u : TypeTree) × (type_at us k ≡ Some u) × IsDropRegion structs u r
drop_of_part structs us r ([], s, rs, ts, l, o) = absurd cc
drop_of_part structs us r (n ∷ way, s, rs, ts, (d, l), o) = (d.0, n, d.1, (way, s, rs, ts, l, o))

pub drop_own : (structs : List Struct) (s : ℕ) (rs : List ℕ) (ts : TypeTrees) (r : ℕ)
    → IsOwnDropRegion (struct_at structs s) rs ts r → IsDropRegion structs (named s rs ts) r
drop_own structs s rs ts r o = ([], s, rs, ts, refl, o)

pub drop_field : (structs : List Struct) (s : ℕ) (rs : List ℕ) (ts : TypeTrees) (r k : ℕ) (u : TypeTree)
    → field_type structs s rs ts k ≡ Some u → IsDropRegion structs u r → IsDropRegion structs (named s rs ts) r
drop_field structs s rs ts r k u e (way, n, qs, us, l, o) = (u ∷ way, n, qs, us, ((k, e), l), o)

pub drop_of_named : (structs : List Struct) (s : ℕ) (rs : List ℕ) (ts : TypeTrees) (r : ℕ)
    → IsDropRegion structs (named s rs ts) r
    → IsOwnDropRegion (struct_at structs s) rs ts r
    ⊎ ((k : ℕ) × (u : TypeTree) × (field_type structs s rs ts k ≡ Some u) × IsDropRegion structs u r)
drop_of_named structs s rs ts r ([], n, qs, us, l, o) = grind arith
drop_of_named structs s rs ts r (x ∷ way, n, qs, us, (d, l), o) = inr (d.0, x, d.1, (way, n, qs, us, l, o))

-- ---- what lists of sources have got

pub adds_nothing : (structs : List Struct) (wanted : List ℕ → TypeTrees → ℕ → Type 0) (a : List Source)
    → ((rs : List ℕ) (ts : TypeTrees) (r : ℕ) → wanted rs ts r → ⊥) → AddsSources structs wanted a a
adds_nothing structs wanted a not = record { each = λ rs ts r. (inl, ⊎_elim (λ h. h) (λ w. absurd (not rs ts r w))) }

pub adds_as : (structs : List Struct) (wanted other : List ℕ → TypeTrees → ℕ → Type 0) (a b : List Source)
    → ((rs : List ℕ) (ts : TypeTrees) (r : ℕ) → wanted rs ts r → other rs ts r)
    → ((rs : List ℕ) (ts : TypeTrees) (r : ℕ) → other rs ts r → wanted rs ts r) → AddsSources structs wanted a b
    → AddsSources structs other a b
adds_as structs wanted other a b to from x = record {
  each = λ rs ts r.
      let e = x.each rs ts r in
      (λ y. ⊎_elim inl (λ w. inr (to rs ts r w)) (e.0 y), ⊎_elim (λ h. e.1 (inl h)) (λ w. e.1 (inr (from rs ts r w))));
}

pub adds_then : (structs : List Struct) (wanted other : List ℕ → TypeTrees → ℕ → Type 0) (a b c : List Source)
    → AddsSources structs wanted a b → AddsSources structs other b c
    → AddsSources structs (λ rs ts r. wanted rs ts r ⊎ other rs ts r) a c
adds_then structs wanted other a b c x y = record {
  each = λ rs ts r.
      let e = x.each rs ts r in
      let f = y.each rs ts r in (
        λ h. ⊎_elim (λ k. ⊎_elim inl (λ w. inr (inl w)) (e.0 k)) (λ w. inr (inr w)) (f.0 h),
        ⊎_elim (λ h. f.1 (inl (e.1 (inl h)))) (⊎_elim (λ w. f.1 (inl (e.1 (inr w)))) (λ w. f.1 (inr w))),
      );
}

pub adds_one : (structs : List Struct) (new : Source) (a b : List Source)
    → ((x : Source) → Contains b x ↔ (Contains a x ⊎ (new ≡ x)))
    → AddsSources structs (λ rs ts r. Yields structs rs ts new r) a b
adds_one structs new a b each = record {
  each = λ rs ts r. (
    λ h. ⊎_elim (λ c. inl (h.0, c, h.2)) (λ e. inr (subst (λ s. Yields structs rs ts s r) (sym e) h.2))
        ((each h.0).0 h.1),
    ⊎_elim (λ h. (h.0, (each h.0).1 (inl h.1), h.2)) (λ y. (new, (each new).1 (inr refl), y)),
  );
}

-- ---- wanted regions of each form of type

pub wanted_int : (structs : List Struct) (w d : Type 0) (rs : List ℕ) (ts : TypeTrees) (r : ℕ)
    → IsWantedOf structs w d int rs ts r → ⊥
wanted_int structs w d rs ts r x = ⊎_elim (λ h. h.1) (λ h. no_drop_int structs r h.1) x

pub wanted_reference : (structs : List Struct) (w d : Type 0) (q : ℕ) (m : Bool) (t : TypeTree) (a b c : List Source)
    → AddsSources structs (λ rs ts r. w × Yields structs rs ts (Region q) r) a b
    → AddsSources structs (IsWantedOf structs w (IsTrue false) t) b c
    → AddsSources structs (IsWantedOf structs w d (reference q m t)) a c
wanted_reference structs w d q m t a b c x y = adds_as structs _ _ a c
    (λ rs ts r. ⊎_elim (λ h. inl (h.0, inl h.1)) (⊎_elim (λ h. inl (h.0, inr h.1)) (λ h. absurd (let e = h.0 in cc))))
    (λ rs ts r. ⊎_elim (λ h. ⊎_elim (λ e. inl (h.0, e)) (λ i. inr (inl (h.0, i))) h.1)
    (λ h. absurd (no_drop_reference structs _ m _ r h.1)))
    (adds_then structs _ _ a b c x y)

pub wanted_tuple : (structs : List Struct) (w d : Type 0) (us : TypeTrees) (a b : List Source)
    → AddsSources structs (IsWantedOfOne structs (λ _. w) (λ _. d) us) a b
    → AddsSources structs (IsWantedOf structs w d (tuple us)) a b
wanted_tuple structs w d us a b x = adds_as structs _ _ a b
    (λ rs ts r h. ⊎_elim
    (λ i. inl (i.0, any_has _ h.0 _ r (type_at_put rs ts us h.0 h.1 h.2) i.1))
    (λ i. inr (i.0, drop_part structs _ r h.0 _ (type_at_put rs ts us h.0 h.1 h.2) i.1)) h.3)
    (λ rs ts r. ⊎_elim
    (λ h. let i = has_any (put_in_all rs ts us) r h.1 in let p = type_at_put_back rs ts us i.0 i.1 i.2 in
    (i.0, p.0, p.1, inl (h.0, subst (λ z. HasRegion z r) p.2 i.3)))
    (λ h. let i = drop_of_part structs (put_in_all rs ts us) r h.1 in let p = type_at_put_back rs ts us i.0 i.1 i.2 in
    (i.0, p.0, p.1, inr (h.0, subst (λ z. IsDropRegion structs z r) p.2 i.3))))
    x

pub wanted_function : (structs : List Struct) (w d : Type 0) (us : TypeTrees) (t : TypeTree) (a b c : List Source)
    → AddsSources structs (IsWantedOfOne structs (λ _. w) (λ _. IsTrue false) us) a b
    → AddsSources structs (IsWantedOf structs w (IsTrue false) t) b c
    → AddsSources structs (IsWantedOf structs w d (function us t)) a c
wanted_function structs w d us t a b c x y = adds_as structs _ _ a c
    (λ rs ts r. ⊎_elim
    (λ h. ⊎_elim
    (λ i. inl (i.0, inl (any_has _ h.0 _ r (type_at_put rs ts us h.0 h.1 h.2) i.1)))
    (λ i. absurd (let e = i.0 in cc)) h.3)
    (⊎_elim (λ h. inl (h.0, inr h.1)) (λ h. absurd (let e = h.0 in cc))))
    (λ rs ts r. ⊎_elim
    (λ h. ⊎_elim
    (λ e. let i = has_any (put_in_all rs ts us) r e in let p = type_at_put_back rs ts us i.0 i.1 i.2 in
    inl (i.0, p.0, p.1, inl (h.0, subst (λ z. HasRegion z r) p.2 i.3)))
    (λ i. inr (inl (h.0, i))) h.1)
    (λ h. absurd (no_drop_function structs _ _ r h.1)))
    (adds_then structs _ _ a b c x y)

-- ---- what is wanted of the elements of a row, one after another

-- r is wanted of one of the first n elements
abbrev pub IsWantedBelow : {A : Type 0} → (ℕ → Option A) → (ℕ → A → List ℕ → TypeTrees → ℕ → Type 0) → ℕ → List ℕ
    → TypeTrees → ℕ → Type 0
IsWantedBelow {A} get wanted n rs ts r = (k : ℕ) × (x : A) × (k < n) × (get k ≡ Some x) × wanted k x rs ts r

abbrev pub IsWantedOfAny : {A : Type 0} → (ℕ → Option A) → (ℕ → A → List ℕ → TypeTrees → ℕ → Type 0) → List ℕ
    → TypeTrees → ℕ → Type 0
IsWantedOfAny {A} get wanted rs ts r = (k : ℕ) × (x : A) × (get k ≡ Some x) × wanted k x rs ts r

pub below_none : {A : Type 0} (structs : List Struct) (get : ℕ → Option A)
    (wanted : ℕ → A → List ℕ → TypeTrees → ℕ → Type 0) (a : List Source)
    → AddsSources structs (IsWantedBelow get wanted 0) a a
below_none structs get wanted a = adds_nothing structs _ a (λ rs ts r h. absurd (let l = h.2 in omega arith))

split : (k n : ℕ) → k < n + 1 → (k < n) ⊎ (k ≡ n)
split k n h = ⊎_elim inl (λ l. inr (omega arith)) (cases_lt k n)

pub below_more : {A : Type 0} (structs : List Struct) (get : ℕ → Option A)
    (wanted : ℕ → A → List ℕ → TypeTrees → ℕ → Type 0) (n : ℕ) (x : A) (a b c : List Source) → get n ≡ Some x
    → AddsSources structs (IsWantedBelow get wanted n) a b → AddsSources structs (wanted n x) b c
    → AddsSources structs (IsWantedBelow get wanted (n + 1)) a c
below_more {A} structs get wanted n x a b c e first last = adds_as structs _ _ a c
    (λ rs ts r. ⊎_elim (λ h. (h.0, h.1, (let l = h.2 in omega arith), h.3, h.4)) (λ h. (n, x, omega arith, e, h)))
    (λ rs ts r h. ⊎_elim
    (λ l. inl (h.0, h.1, l, h.3, h.4))
    (λ l. inr (
    let g : get n ≡ Some h.1 = subst (λ (z : ℕ). get z ≡ Some h.1) l h.3 in
    let s : h.1 ≡ x = cc in
    subst (λ (z : A). wanted n z rs ts r) s (subst (λ (z : ℕ). wanted z h.1 rs ts r) l h.4)))
    (split h.0 n h.2))
    (adds_then structs _ _ a b c first last)

pub below_all : {A : Type 0} (structs : List Struct) (get : ℕ → Option A)
    (wanted : ℕ → A → List ℕ → TypeTrees → ℕ → Type 0) (n : ℕ) (a b : List Source)
    → ((k : ℕ) (x : A) → get k ≡ Some x → k < n)
    → AddsSources structs (IsWantedBelow get wanted n) a b → AddsSources structs (IsWantedOfAny get wanted) a b
below_all structs get wanted n a b within x = adds_as structs _ _ a b
    (λ rs ts r h. (h.0, h.1, h.3, h.4))
    (λ rs ts r h. (h.0, h.1, within h.0 h.1 h.2, h.2, h.3)) x

-- ---- a struct

-- regions of arguments that stand for a parameter
argument_wanted : (structs : List Struct) (rs : List ℕ) (ts us : TypeTrees) (k r : ℕ)
    → HasRegion (argument (put_in_all rs ts us) k) r
    → (u : TypeTree) × (type_at us k ≡ Some u) × HasRegion (put_in rs ts u) r
argument_wanted structs rs ts us k r h = grind (arith, argument_put, argument_cases)

argument_dropped : (structs : List Struct) (rs : List ℕ) (ts us : TypeTrees) (k r : ℕ)
    → IsDropRegion structs (argument (put_in_all rs ts us) k) r
    → (u : TypeTree) × (type_at us k ≡ Some u) × IsDropRegion structs (put_in rs ts u) r
argument_dropped structs rs ts us k r h =
    let i = subst (λ z. IsDropRegion structs z r) (argument_put rs ts us k) h in
    ⊎_elim (λ e. (argument us k, e, i))
    (λ e. absurd (no_drop_int structs r (subst (λ z. IsDropRegion structs (put_in rs ts z) r) e i)))
    (argument_cases us k)

argument_is : (rs : List ℕ) (ts us : TypeTrees) (k : ℕ) (u : TypeTree) → type_at us k ≡ Some u
    → put_in rs ts u ≡ argument (put_in_all rs ts us) k
argument_is rs ts us k u e = sym (argument_put rs ts us k ∙ ap (put_in rs ts) (argument_there us k u e))

contains_at : (xs : List Source) (x : Source) → Contains xs x → (k : ℕ) × (slice_get xs k ≡ Some x)
contains_at xs x c = (c.0, slice_get-get_or xs c.0 x c.1 ∙ ap Some c.2)

at_contains : (xs : List Source) (k : ℕ) (x : Source) → slice_get xs k ≡ Some x → Contains xs x
at_contains xs k x e = (k, slice_get_within xs k x e, get_or_from_slice_get xs k x x e)

-- the sources of a struct, with its arguments put in
module _ (base later : List Struct) (s : ℕ) (qs : List ℕ) (us : TypeTrees) (sources : List Source)
    (written dropped : Bool) (right : AreSourcesOf base s sources)
    (count : length qs ≡ length (struct_at base s).regions) where
  abbrev all : List Struct
  all = base ++ later

  known : (rs : List ℕ) (ts : TypeTrees) (r : ℕ)
      → IsDropRegion all (named s (map (region_in rs) qs) (put_in_all rs ts us)) r
      ↔ OneYields all (map (region_in rs) qs) (put_in_all rs ts us) sources r
  known rs ts r =
      right.each later (map (region_in rs) qs) (put_in_all rs ts us) r (length-map qs (region_in rs) ∙ count)

  abbrev Wanted : List ℕ → TypeTrees → ℕ → Type 0
  Wanted rs ts r = ((IsTrue written × IsPutRegion qs rs ts r) ⊎ (IsTrue dropped × IsSourceRegion sources qs rs ts r))
      ⊎ IsWantedOfOne all (WantsWritten sources written dropped) (WantsDropped sources dropped) us rs ts r

  to_region : (rs : List ℕ) (ts : TypeTrees) (r : ℕ) → IsTrue dropped × IsSourceRegion sources qs rs ts r
      → IsWantedOf all (IsTrue written) (IsTrue dropped) (named s qs us) rs ts r
  to_region rs ts r (h, (k, q, e, f)) =
      inr (h, (known rs ts r).1 (Region q, at_contains sources k (Region q) e, region_twice rs qs q ∙ f))

  to_argument : (rs : List ℕ) (ts : TypeTrees) (r : ℕ)
      → IsWantedOfOne all (WantsWritten sources written dropped) (WantsDropped sources dropped) us rs ts r
      → IsWantedOf all (IsTrue written) (IsTrue dropped) (named s qs us) rs ts r
  to_argument rs ts r (k, u, e, i) = ⊎_elim
      (λ i. ⊎_elim
      (λ h. inl (h, inr (any_has _ k _ r (type_at_put rs ts us k u e) i.1)))
      (λ h. inr (h.0, (known rs ts r).1 (AnyOf k, h.1, subst (λ z. HasRegion z r) (argument_is rs ts us k u e) i.1)))
      i.0)
      (λ i. inr (
        i.0.0,
        (known rs ts r).1
            (DropOf k, i.0.1, subst (λ z. IsDropRegion all z r) (argument_is rs ts us k u e) i.1),
      ))
      i

  from_source : (rs : List ℕ) (ts : TypeTrees) (r : ℕ) → IsTrue dropped
      → OneYields all (map (region_in rs) qs) (put_in_all rs ts us) sources r → Wanted rs ts r
  from_source rs ts r h (Region q, c, y) =
      (let a = contains_at sources (Region q) c in inl (inr (h, (a.0, q, a.1, sym (region_twice rs qs q) ∙ y))))
  from_source rs ts r h (AnyOf k, c, y) =
      (let a = argument_wanted all rs ts us k r y in inr (k, a.0, a.1, inl (inr (h, c), a.2)))
  from_source rs ts r h (DropOf k, c, y) =
      (let a = argument_dropped all rs ts us k r y in inr (k, a.0, a.1, inr ((h, c), a.2)))

  from_written : (rs : List ℕ) (ts : TypeTrees) (r : ℕ) → IsTrue written
      → Contains (map (region_in rs) qs) r ⊎ AnyHasRegion (put_in_all rs ts us) r → Wanted rs ts r
  from_written rs ts r h = ⊎_elim
      (λ c. let m = contains_mapped (region_in rs) qs r c in inl (inl (h, m)))
      (λ c. let i = has_any (put_in_all rs ts us) r c in let p = type_at_put_back rs ts us i.0 i.1 i.2 in
      inr (i.0, p.0, p.1, inl (inl h, subst (λ z. HasRegion z r) p.2 i.3)))

  pub wanted_named : (a c e : List Source)
      → AddsSources all (λ rs ts r. (IsTrue written × IsPutRegion qs rs ts r)
      ⊎ (IsTrue dropped × IsSourceRegion sources qs rs ts r)) a c
      → AddsSources all (IsWantedOfOne all (WantsWritten sources written dropped) (WantsDropped sources dropped) us) c e
      → AddsSources all (IsWantedOf all (IsTrue written) (IsTrue dropped) (named s qs us)) a e
  wanted_named a c e x z = adds_as all _ _ a e
      (λ rs ts r. ⊎_elim (⊎_elim (λ h. inl (h.0, inl (contains_map (region_in rs) qs h.1.0 h.1.1 r h.1.2 h.1.3)))
      (to_region rs ts r)) (to_argument rs ts r))
      (λ rs ts r. ⊎_elim (λ h. from_written rs ts r h.0 h.1) (λ h. from_source rs ts r h.0 ((known rs ts r).0 h.1)))
      (adds_then all _ _ a c e x z)

-- the same is wanted, by other facts
pub wanted_flags : (structs : List Struct) (w w' d d' : Type 0) (t : TypeTree) (a b : List Source) → w ↔ w' → d ↔ d'
    → AddsSources structs (IsWantedOf structs w d t) a b → AddsSources structs (IsWantedOf structs w' d' t) a b
wanted_flags structs w w' d d' t a b e f = adds_as structs _ _ a b
    (λ rs ts r. ⊎_elim (λ h. inl (e.0 h.0, h.1)) (λ h. inr (f.0 h.0, h.1)))
    (λ rs ts r. ⊎_elim (λ h. inl (e.1 h.0, h.1)) (λ h. inr (f.1 h.0, h.1)))

pub written_flag : (a b : Bool) (d c : Type 0) → IsTrue b ↔ (d × c) → IsTrue (a || b) ↔ (IsTrue a ⊎ (d × c))
written_flag true b d c is = (λ h. inl refl, λ h. refl)
written_flag false b d c is = (λ h. inr (is.0 h), ⊎_elim (λ h. absurd (false≢true h)) (λ h. is.1 h))
