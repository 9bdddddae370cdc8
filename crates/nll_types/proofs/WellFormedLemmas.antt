-- Types that keep to what is declared.
use Rattle.std.proofs.Common.{◌≡◌, ℕ, zero, suc, ◌+◌, ◌<◌, List, [], ◌∷◌, length, map, take, Option, Some, None, sym, subst, ap, ◌∙◌, refl, arith}
use Rattle.std.specs.Prelude.{All, slice_get, option_map, option_and_then}
use Rattle.std.proofs.lemmas.List.{length-map}
use Rattle.std.proofs.lemmas.Option.{slice_get_within, get_or_from_slice_get}
use Rattle.nll_types.specs.Types.{TypeTree, TypeTrees, int, parameter, reference, tuple, named, function, none, more, type_at, type_count}
use Rattle.nll_types.specs.Structs.{Struct, struct_at, region_in, argument, put_in, put_in_all, IsWellFormed, AreWellFormed, AreInOrder}
use Rattle.nll_types.specs.Places.{PlacePath, behind, behind_all, type_of}
use Rattle.nll_types.specs.declared.place.Projection.{Projection}
use Rattle.nll_types.specs.declared.place.Projection.TheVariants.{Deref, Field}

pub well_formed_at : (structs : List Struct) (n p : ℕ) (us : TypeTrees) (k : ℕ) (u : TypeTree)
    → AreWellFormed structs n p us → type_at us k ≡ Some u → IsWellFormed structs n p u
well_formed_at structs n p none k u w e = absurd cc
well_formed_at structs n p (more v us) zero u w e = (let s : v ≡ u = cc in subst (IsWellFormed structs n p) s w.0)
well_formed_at structs n p (more v us) (suc k) u w e = well_formed_at structs n p us k u w.1 e

-- ---- arguments put in

region_below : (n : ℕ) (rs : List ℕ) (r : ℕ) → 0 < n → All (λ q. q < n) rs → r < length rs + 1 → region_in rs r < n
region_below n rs zero some all h = some
region_below n rs (suc k) some all h = all k 0 (omega arith)

regions_below : (n : ℕ) (rs qs : List ℕ) → 0 < n → All (λ q. q < n) rs → All (λ q. q < length rs + 1) qs
    → All (λ q. q < n) (map (region_in rs) qs)
regions_below n rs [] some all h k d l = absurd (omega arith)
regions_below n rs (q ∷ qs) some all h zero d l = region_below n rs q some all (h 0 0 (omega arith))
regions_below n rs (q ∷ qs) some all h (suc k) d l =
    regions_below n rs qs some all (λ j e m. h (suc j) e (omega arith)) k d (omega arith)

argument_good : (structs : List Struct) (n p : ℕ) (ts : TypeTrees) (k : ℕ) → AreWellFormed structs n p ts
    → k < type_count ts → IsWellFormed structs n p (argument ts k)
argument_good structs n p none k w h = absurd (omega arith)
argument_good structs n p (more t ts) zero w h = w.0
argument_good structs n p (more t ts) (suc k) w h = argument_good structs n p ts k w.1 (omega arith)

count_put : (rs : List ℕ) (ts us : TypeTrees) → type_count (put_in_all rs ts us) ≡ type_count us
count_put rs ts none = refl
count_put rs ts (more u us) = ap (λ (n : ℕ). n + 1) (count_put rs ts us)

mutual
  put_good : (structs : List Struct) (n p : ℕ) (rs : List ℕ) (ts : TypeTrees) (t : TypeTree) → 0 < n
      → All (λ q. q < n) rs → AreWellFormed structs n p ts
      → IsWellFormed structs (length rs + 1) (type_count ts) t → IsWellFormed structs n p (put_in rs ts t)
  put_good structs n p rs ts int some all good w = w
  put_good structs n p rs ts (parameter k) some all good w = argument_good structs n p ts k good w
  put_good structs n p rs ts (reference r m t) some all good w =
      (region_below n rs r some all w.0, put_good structs n p rs ts t some all good w.1)
  put_good structs n p rs ts (tuple us) some all good w = put_all_good structs n p rs ts us some all good w
  put_good structs n p rs ts (named s qs us) some all good w = (
    w.0,
    length-map qs (region_in rs) ∙ w.1,
    count_put rs ts us ∙ w.2,
    regions_below n rs qs some all w.3,
    put_all_good structs n p rs ts us some all good w.4,
  )
  put_good structs n p rs ts (function us u) some all good w =
      (put_all_good structs n p rs ts us some all good w.0, put_good structs n p rs ts u some all good w.1)

  put_all_good : (structs : List Struct) (n p : ℕ) (rs : List ℕ) (ts us : TypeTrees) → 0 < n → All (λ q. q < n) rs
      → AreWellFormed structs n p ts
      → AreWellFormed structs (length rs + 1) (type_count ts) us → AreWellFormed structs n p (put_in_all rs ts us)
  put_all_good structs n p rs ts none some all good w = w
  put_all_good structs n p rs ts (more u us) some all good w =
      (put_good structs n p rs ts u some all good w.0, put_all_good structs n p rs ts us some all good w.1)

-- ---- more structs

taken : (structs : List Struct) (s k : ℕ) → k < length (take s structs)
    → (k < length structs) × (struct_at (take s structs) k ≡ struct_at structs k)
taken [] zero k h = absurd (omega arith)
taken [] (suc s) k h = absurd (omega arith)
taken (d ∷ structs) zero k h = absurd (omega arith)
taken (d ∷ structs) (suc s) zero h = (omega arith, refl)
taken (d ∷ structs) (suc s) (suc k) h = (let r = taken structs s k (omega arith) in (omega (arith, r.0), r.1))

mutual
  more_structs : (structs : List Struct) (s n p : ℕ) (t : TypeTree) → IsWellFormed (take s structs) n p t
      → IsWellFormed structs n p t
  more_structs structs s n p int w = w
  more_structs structs s n p (parameter k) w = w
  more_structs structs s n p (reference r m t) w = (w.0, more_structs structs s n p t w.1)
  more_structs structs s n p (tuple ts) w = more_structs_all structs s n p ts w
  more_structs structs s n p (named k rs ts) w =
      (let r = taken structs s k w.0 in (
        r.0,
        w.1 ∙ ap (λ (d : Struct). length d.regions) r.1,
        w.2 ∙ ap (λ (d : Struct). length d.types) r.1,
        w.3,
        more_structs_all structs s n p ts w.4,
      ))
  more_structs structs s n p (function ts t) w =
      (more_structs_all structs s n p ts w.0, more_structs structs s n p t w.1)

  more_structs_all : (structs : List Struct) (s n p : ℕ) (ts : TypeTrees) → AreWellFormed (take s structs) n p ts
      → AreWellFormed structs n p ts
  more_structs_all structs s n p none w = w
  more_structs_all structs s n p (more t ts) w =
      (more_structs structs s n p t w.0, more_structs_all structs s n p ts w.1)

-- ---- places

put_at : (structs : List Struct) (n p : ℕ) (rs : List ℕ) (ts : TypeTrees) (o : Option TypeTree) (u : TypeTree) → 0 < n
    → All (λ q. q < n) rs → AreWellFormed structs n p ts
    → ((t : TypeTree) → o ≡ Some t → IsWellFormed structs (length rs + 1) (type_count ts) t)
    → option_map (put_in rs ts) o ≡ Some u → IsWellFormed structs n p u
put_at structs n p rs ts None u some all good w e = absurd cc
put_at structs n p rs ts (Some t) u some all good w e =
    let h : put_in rs ts t ≡ u = cc in
    subst (IsWellFormed structs n p) h (put_good structs n p rs ts t some all good (w t refl))

behind_good : (structs : List Struct) (n p : ℕ) (q : Projection) (t u : TypeTree) → AreInOrder structs → 0 < n
    → IsWellFormed structs n p t → behind structs q t ≡ Some u → IsWellFormed structs n p u
behind_good structs n p Deref int u order some w e = absurd cc
behind_good structs n p Deref (parameter k) u order some w e = absurd cc
behind_good structs n p Deref (reference r m t) u order some w e =
    (let h : t ≡ u = cc in subst (IsWellFormed structs n p) h w.1)
behind_good structs n p Deref (tuple ts) u order some w e = absurd cc
behind_good structs n p Deref (named s rs ts) u order some w e = absurd cc
behind_good structs n p Deref (function ts t) u order some w e = absurd cc
behind_good structs n p (Field k) int u order some w e = absurd cc
behind_good structs n p (Field k) (parameter j) u order some w e = absurd cc
behind_good structs n p (Field k) (reference r m t) u order some w e = absurd cc
behind_good structs n p (Field k) (tuple ts) u order some w e = well_formed_at structs n p ts k u w e
behind_good structs n p (Field k) (function ts t) u order some w e = absurd cc
behind_good structs n p (Field k) (named s rs ts) u order some w e =
    put_at structs n p rs ts (type_at (struct_at structs s).fields k) u some w.3 w.4
    (λ t f.
    let g = well_formed_at (take s structs) (length (struct_at structs s).regions + 1)
    (length (struct_at structs s).types) (struct_at structs s).fields k t (order s w.0) f in
    let h = more_structs structs s (length (struct_at structs s).regions + 1)
    (length (struct_at structs s).types) t g in
    subst (λ (x : ℕ). IsWellFormed structs (x + 1) (type_count ts) t) (sym w.1)
    (subst (λ (x : ℕ). IsWellFormed structs (length (struct_at structs s).regions + 1) x t) (sym w.2) h))
    e

behind_all_good : (structs : List Struct) (n p : ℕ) (ps : List Projection) (t u : TypeTree) → AreInOrder structs → 0 < n
    → IsWellFormed structs n p t → behind_all structs ps t ≡ Some u → IsWellFormed structs n p u
behind_all_good structs n p [] t u order some w e = (let h : t ≡ u = cc in subst (IsWellFormed structs n p) h w)
behind_all_good structs n p (q ∷ ps) t u order some w e =
    by (behind structs q t) refl e (λ v g. behind_all_good structs n p ps v u order some g)
  where
    by : (o : Option TypeTree) → behind structs q t ≡ o → option_and_then (behind_all structs ps) o ≡ Some u
        → ((v : TypeTree) → IsWellFormed structs n p v → behind_all structs ps v ≡ Some u → IsWellFormed structs n p u)
        → IsWellFormed structs n p u
    by None h e on = absurd cc
    by (Some v) h e on = on v (behind_good structs n p q t v order some w h) e

-- the type of a place keeps to what is declared where the types of variables do
pub place_good : (structs : List Struct) → AreInOrder structs → (n p : ℕ) → 0 < n → (variables : List TypeTree)
    → All (IsWellFormed structs n p) variables
    → (place : PlacePath) (t : TypeTree) → type_of structs variables place ≡ Some t → IsWellFormed structs n p t
place_good structs order n p some variables good place t e = by (slice_get variables place.variable) refl e
  where
    by : (o : Option TypeTree) → slice_get variables place.variable ≡ o
        → option_and_then (behind_all structs place.projections) o ≡ Some t → IsWellFormed structs n p t
    by None h e = absurd cc
    by (Some v) h e = behind_all_good structs n p place.projections v t order some
        (subst (IsWellFormed structs n p) (get_or_from_slice_get variables place.variable v v h)
        (good place.variable v (slice_get_within variables place.variable v h))) e
