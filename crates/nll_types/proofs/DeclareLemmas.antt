-- Where the drop regions of a declared struct come from, and what is kept of declared structs.
use Rattle.std.proofs.Common.{◌≡◌, ℕ, ◌+◌, ◌<◌, ◌≤◌, List, [], ◌∷◌, ◌++◌, length, map, take, refl, sym, ap, ◌∙◌, subst, arith, true, false, inl, inr, ⊎_elim, ◌⊎◌, ◌↔◌, append_assoc, get_or}
use Rattle.std.specs.Prelude.{slice_get, slice_index_or, Option, Some, None, IsTrue, option_map}
use Rattle.std.proofs.lemmas.Bool.{cases_lt}
use Rattle.std.proofs.lemmas.List.{length-map, length-append, get_or_append_left, map_push, take-append-le}
use Rattle.std.proofs.lemmas.Option.{slice_get-get_or, slice_get_within, get_or_from_slice_get, slice_get-map}
use Rattle.std.proofs.Math.Seq.{get_or-append_seam, take-length}
use Rattle.nll_types.specs.Types.{TypeTree, TypeTrees, named, type_at}
use Rattle.nll_types.specs.Structs.{Struct, no_struct, struct_at, put_in, HasGoodFields, AreInOrder}
use Rattle.nll_types.specs.DropRegions.{IsOwnDropRegion, IsDropRegion}
use Rattle.nll_types.specs.Sources.{OneYields, AreSourcesOf, IsWantedOfOne, AddsSources}
use Rattle.nll_types.specs.Collecting.{IsKeptRegion, IsInKept}
use Rattle.nll_types.specs.Declarations.{declared, structs_of, AreKept}
use Rattle.nll_types.specs.declared.source.Source.{Source}
use Rattle.nll_types.specs.declared.structs.Declaration.{Declaration}
use Rattle.nll_types.proofs.PutLemmas.{argument_cases, argument_there}
use Rattle.nll_types.proofs.DropLemmas.{drop_own, drop_field, drop_of_named}

-- ---- a struct's own drop

abbrev OwnSources : Struct → List ℕ → TypeTrees → ℕ → Type 0
OwnSources d rs ts r = (d.has_drop ≡ true) × (IsKeptRegion d.regions rs ts r ⊎ IsInKept d.types rs ts r)

own_to : (d : Struct) (rs : List ℕ) (ts : TypeTrees) (r : ℕ) → IsOwnDropRegion d rs ts r → OwnSources d rs ts r
own_to d rs ts r o = grind (arith, get_or_from_slice_get, argument_there)

own_from : (d : Struct) (rs : List ℕ) (ts : TypeTrees) (r : ℕ) → length rs ≡ length d.regions → OwnSources d rs ts r
    → IsOwnDropRegion d rs ts r
own_from d rs ts r count o = grind (arith, slice_get_within, slice_get-get_or, argument_cases)

-- ---- a struct

-- the field of a type with the arguments put in
put_field : (f : TypeTree → TypeTree) (o : Option TypeTree) (u : TypeTree) → option_map f o ≡ Some u
    → (t : TypeTree) × (o ≡ Some t) × (f t ≡ u)
put_field f None u e = absurd cc
put_field f (Some t) u e = (t, refl, cc)

sources_over : (all : List Struct) (s : ℕ) (d : Struct) (b c : List Source) → struct_at all s ≡ d
    → AddsSources all (OwnSources d) [] b
    → AddsSources all (IsWantedOfOne all (λ _. IsTrue false) (λ _. IsTrue true) d.fields) b c
    → (rs : List ℕ) (ts : TypeTrees) (r : ℕ) → length rs ≡ length d.regions
    → IsDropRegion all (named s rs ts) r ↔ OneYields all rs ts c r
sources_over all s d b c is x y rs ts r count = (
  λ h. ⊎_elim
      (λ o. (y.each rs ts r).1 (inl ((x.each rs ts r).1
      (inr (own_to d rs ts r (subst (λ z. IsOwnDropRegion z rs ts r) is o))))))
      (λ o. let e = subst (λ z. option_map (put_in rs ts) (type_at z.fields o.0) ≡ Some o.1) is o.2 in
      let p = put_field (put_in rs ts) (type_at d.fields o.0) o.1 e in
      (y.each rs ts r).1 (inr (o.0, p.0, p.1, inr (refl, subst (λ z. IsDropRegion all z r) (sym p.2) o.3))))
      (drop_of_named all s rs ts r h),
  λ h. ⊎_elim
      (λ h. ⊎_elim
      (λ n. absurd (let l = n.1.1 in omega arith))
      (λ o. drop_own all s rs ts r (subst (λ z. IsOwnDropRegion z rs ts r) (sym is) (own_from d rs ts r count o)))
      ((x.each rs ts r).0 h))
      (λ w. ⊎_elim
      (λ n. absurd (let f = n.0 in cc))
      (λ i. drop_field all s rs ts r w.0 (put_in rs ts w.1)
      (subst (λ z. option_map (put_in rs ts) (type_at z.fields w.0) ≡ Some (put_in rs ts w.1)) (sym is)
      (ap (option_map (put_in rs ts)) w.2)) i.1)
      w.3)
      ((y.each rs ts r).0 h),
)

at_seam : (base : List Struct) (d : Struct) (later : List Struct) → struct_at (base ++ d ∷ later) (length base) ≡ d
at_seam base d later = get_or-append_seam base d later no_struct

pub sources_declared : (base : List Struct) (d : Struct) (b c : List Source)
    → ((all : List Struct) → AddsSources all
    (λ rs ts r. (d.has_drop ≡ true) × (IsKeptRegion d.regions rs ts r ⊎ IsInKept d.types rs ts r)) [] b)
    → ((later : List Struct) → AddsSources (base ++ later)
    (IsWantedOfOne (base ++ later) (λ _. IsTrue false) (λ _. IsTrue true) d.fields) b c)
    → AreSourcesOf (base ++ d ∷ []) (length base) c
sources_declared base d b c x y = record {
  each = λ later rs ts r count.
      subst (λ all. IsDropRegion all (named (length base) rs ts) r ↔ OneYields all rs ts c r)
      (sym (append_assoc base (d ∷ []) later))
      (sources_over (base ++ d ∷ later) (length base) d b c (at_seam base d later) (x _) (y (d ∷ later)) rs ts r
      (count ∙ ap (λ (z : Struct). length z.regions) (at_seam base d [])));
}

-- ---- one struct more

sources_stay : (base : List Struct) (d : Struct) (s : ℕ) (c : List Source) → s < length base → AreSourcesOf base s c
    → AreSourcesOf (base ++ d ∷ []) s c
sources_stay base d s c l x = record {
  each = λ later rs ts r count.
      subst (λ all. IsDropRegion all (named s rs ts) r ↔ OneYields all rs ts c r)
      (sym (append_assoc base (d ∷ []) later))
      (x.each (d ∷ later) rs ts r (count ∙ ap (λ (z : Struct). length z.regions)
      (get_or_append_left base (d ∷ []) no_struct s l)));
}

split : (k n : ℕ) → k < n + 1 → (k < n) ⊎ (k ≡ n)
split k n h = ⊎_elim inl (λ l. inr (omega arith)) (cases_lt k n)

order_push : (base : List Struct) (d : Struct) → AreInOrder base → HasGoodFields base d → AreInOrder (base ++ d ∷ [])
order_push base d order good s l = ⊎_elim
    (λ l. let m : s ≤ length base = omega arith in
    subst (λ z. HasGoodFields z (struct_at (base ++ d ∷ []) s)) (sym (take-append-le s base (d ∷ []) m))
    (subst (HasGoodFields (take s base)) (sym (get_or_append_left base (d ∷ []) no_struct s l)) (order s l)))
    (λ e. let m : length base ≤ length base = omega arith in
    let f : take (length base) (base ++ d ∷ []) ≡ base = take-append-le (length base) base (d ∷ []) m
    ∙ take-length base in
    subst (λ (z : ℕ). HasGoodFields (take z (base ++ d ∷ [])) (struct_at (base ++ d ∷ []) z)) (sym e)
    (subst (λ z. HasGoodFields z (struct_at (base ++ d ∷ []) (length base))) (sym f)
    (subst (HasGoodFields base) (sym (at_seam base d [])) good)))
    (split s (length base) (omega (arith, length-append base (d ∷ []))))

pub kept_push : (ds : List Declaration) (sources : List (List Source)) (d : Declaration) (new : List Source)
    → AreKept ds sources → HasGoodFields (structs_of ds) (declared d)
    → AreSourcesOf (structs_of ds ++ declared d ∷ []) (length ds) new → AreKept (ds ++ d ∷ []) (sources ++ new ∷ [])
kept_push ds sources d new kept good right = record {
  counted = (let c = kept.counted in omega (arith, length-append ds (d ∷ []), length-append sources (new ∷ [])));
  in_order = rw (map_push declared ds d) (order_push (structs_of ds) (declared d) kept.in_order good);
  known = λ s l. rw (map_push declared ds d) (⊎_elim
      (λ l. let c = kept.counted in
      let m : s < length sources = omega arith in
      let n : s < length (structs_of ds) = omega (arith, length-map ds declared) in
      rw (get_or_append_left sources (new ∷ []) [] s m)
      (sources_stay (structs_of ds) (declared d) s _ n (kept.known s l)))
      (λ e. let c = kept.counted in
      let g : get_or (sources ++ new ∷ []) (length sources) [] ≡ new = get_or-append_seam sources new [] [] in
      let z : s ≡ length sources = omega arith in
      rw (z, g) (subst (λ (k : ℕ). AreSourcesOf (structs_of ds ++ declared d ∷ []) k new) (sym c) right))
      (split s (length ds) (omega (arith, length-append ds (d ∷ [])))));
}

-- an element of a mapped list
pub get_mapped : {A B : Type 0} (f : A → B) (xs : List A) (k : ℕ) (x : A) (d : B) → slice_get xs k ≡ Some x
    → slice_index_or (map f xs) k d ≡ f x
get_mapped f xs k x d e = get_or_from_slice_get (map f xs) k (f x) d (slice_get-map f xs k ∙ ap (option_map f) e)
