-- Which types meet in a statement, form by form.
use Rattle.std.proofs.Common.{◌≡◌, ℕ, zero, suc, Bool, List, [], ◌∷◌, map, refl, sym, ap, ◌∙◌, arith, ⊎_elim, inl, inr, ◌↔◌, ◌⊎◌, Contains, Option, Some, None}
use Rattle.std.specs.Prelude.{slice_get, option_map}
use Rattle.std.proofs.lemmas.Option.{get_or_from_slice_get, slice_get_within, slice_get-get_or}
use Rattle.std.proofs.lemmas.List.Elements.{Contains-append_left, Contains-append_right, Contains-append_cases}
use Rattle.nll_types.specs.Types.{TypeTree, TypeTrees, int, parameter, reference, tuple, named, function, none, more, type_at}
use Rattle.nll_types.specs.Structs.{Struct, struct_at, put_in, put_in_all}
use Rattle.nll_types.specs.Places.{PlacePath, type_of, behind}
use Rattle.nll_types.specs.Operands.{Operand, operand_type}
use Rattle.nll_types.specs.declared.place.Projection.TheVariants.{Field}
use Rattle.nll_body.specs.Statements.{Statement, assign, borrow, make, read, live, dead, nop, goto, switch, drop, call, return, stop}
use Rattle.nll_body.specs.TypePairs.{reference_to, operand_types, parts_of_type, beside, beside_parts, type_pairs}

-- ---- lists

at_place : {X : Type 0} (xs : List X) (x : X) → Contains xs x → (k : ℕ) × (slice_get xs k ≡ Some x)
at_place xs x w = (w.0, slice_get-get_or xs w.0 x w.1 ∙ ap Some w.2)

there : {X : Type 0} (xs : List X) (k : ℕ) (x : X) → slice_get xs k ≡ Some x → Contains xs x
there xs k x at = (k, slice_get_within xs k x at, get_or_from_slice_get xs k x x at)

-- the one element of a list
one_is : {X : Type 0} (x y : X) → Contains (x ∷ []) y → x ≡ y
one_is {X} x y w = at (at_place (x ∷ []) y w).0 (at_place (x ∷ []) y w).1
  where
    at : (k : ℕ) → slice_get (x ∷ []) k ≡ Some y → x ≡ y
    at zero e = cc
    at (suc k) e = absurd (let z : None ≡ Some y = e in cc)

one_there : {X : Type 0} (x y : X) → x ≡ y → Contains (x ∷ []) y
one_there x y e = there (x ∷ []) 0 y (ap Some e)

-- what stands in a mapped list comes of an element
of_mapped : {X Y : Type 0} (f : X → Y) (xs : List X) (k : ℕ) (y : Y) → slice_get (map f xs) k ≡ Some y
    → (x : X) × (slice_get xs k ≡ Some x) × (f x ≡ y)
of_mapped f [] k y e = absurd cc
of_mapped f (x ∷ xs) zero y e = (x, refl, cc)
of_mapped f (x ∷ xs) (suc k) y e = of_mapped f xs k y e

to_mapped : {X Y : Type 0} (f : X → Y) (xs : List X) (k : ℕ) (x : X) → slice_get xs k ≡ Some x
    → slice_get (map f xs) k ≡ Some (f x)
to_mapped f [] k x e = absurd cc
to_mapped f (y ∷ xs) zero x e = ap (λ o. option_map f o) e
to_mapped f (y ∷ xs) (suc k) x e = to_mapped f xs k x e

-- ---- pairs of types

abbrev Pair : Type 0
Pair = Option TypeTree × Option TypeTree

parts_equal : (a b c d : Option TypeTree) → ◌≡◌ {A = Pair} (a, b) (c, d) → (a ≡ c) × (b ≡ d)
parts_equal a b c d e = (ap (λ (x : Pair). x.0) e, ap (λ (x : Pair). x.1) e)

pair_equal : (a b c d : Option TypeTree) → a ≡ c → b ≡ d → ◌≡◌ {A = Pair} (a, b) (c, d)
pair_equal a b c d e f = ap (λ (x : Option TypeTree). (x, b)) e ∙ ap (λ (x : Option TypeTree). (c, x)) f

-- ---- operands and parts

beside_at : (os : List (Option TypeTree)) (ts : TypeTrees) (k : ℕ) (t u : TypeTree)
    → slice_get (beside os ts) k ≡ Some (Some t, Some u) → (slice_get os k ≡ Some (Some t)) × (type_at ts k ≡ Some u)
beside_at [] none k t u e = absurd cc
beside_at [] (more v ts) zero t u e =
    absurd (let z : None ≡ Some t = (parts_equal None (Some v) (Some t) (Some u) cc).0 in cc)
beside_at [] (more v ts) (suc k) t u e = absurd (let z = (beside_at [] ts k t u e).0 in cc)
beside_at (o ∷ os) none zero t u e = absurd (let z : None ≡ Some u = (parts_equal o None (Some t) (Some u) cc).1 in cc)
beside_at (o ∷ os) none (suc k) t u e = absurd (let z = (beside_at os none k t u e).1 in cc)
beside_at (o ∷ os) (more v ts) zero t u e = (let z = parts_equal o (Some v) (Some t) (Some u) cc in (ap Some z.0, z.1))
beside_at (o ∷ os) (more v ts) (suc k) t u e = beside_at os ts k t u e

beside_there : (os : List (Option TypeTree)) (ts : TypeTrees) (k : ℕ) (t u : TypeTree) → slice_get os k ≡ Some (Some t)
    → type_at ts k ≡ Some u → slice_get (beside os ts) k ≡ Some (Some t, Some u)
beside_there [] ts k t u e f = absurd cc
beside_there (o ∷ os) none k t u e f = absurd cc
beside_there (o ∷ os) (more v ts) zero t u e f =
    (let z : o ≡ Some t = cc in ap Some (pair_equal o (Some v) (Some t) (Some u) z f))
beside_there (o ∷ os) (more v ts) (suc k) t u e f = beside_there os ts k t u e f

type_at_put : (rs : List ℕ) (ts us : TypeTrees) (k : ℕ)
    → type_at (put_in_all rs ts us) k ≡ option_map (put_in rs ts) (type_at us k)
type_at_put rs ts none k = refl
type_at_put rs ts (more u us) zero = refl
type_at_put rs ts (more u us) (suc k) = type_at_put rs ts us k

module _ (structs : List Struct) (variables : List TypeTree) where
  -- an operand meets the part at its place
  abbrev MeetsPart : List (Option TypeTree) → TypeTree → TypeTree → TypeTree → Type 0
  MeetsPart os made t u = (k : ℕ) × (slice_get os k ≡ Some (Some t)) × (behind structs (Field k) made ≡ Some u)

  no_parts : (os : List (Option TypeTree)) (t u : TypeTree) → Contains {X = Pair} ((None, None) ∷ []) (Some t, Some u)
      → ⊥
  no_parts os t u w = grind (arith, parts_equal, one_is)

  some_parts : (os : List (Option TypeTree)) (ts : TypeTrees) (t u : TypeTree)
      → Contains (beside os ts) (Some t, Some u)
      ↔ ((k : ℕ) × (slice_get os k ≡ Some (Some t)) × (type_at ts k ≡ Some u))
  some_parts os ts t u = (
    λ w. (let p = at_place (beside os ts) (Some t, Some u) w in let b = beside_at os ts p.0 t u p.1 in (p.0, b.0, b.1)),
    λ w. there (beside os ts) w.0 (Some t, Some u) (beside_there os ts w.0 t u w.1 w.2),
  )

  meets_part : (os : List (Option TypeTree)) (made t u : TypeTree)
      → Contains (beside_parts os (parts_of_type structs made)) (Some t, Some u) ↔ MeetsPart os made t u
  meets_part os int t u = (λ w. absurd (no_parts os t u w), λ w. (let e = w.2 in absurd cc))
  meets_part os (parameter j) t u = (λ w. absurd (no_parts os t u w), λ w. (let e = w.2 in absurd cc))
  meets_part os (reference r m v) t u = (λ w. absurd (no_parts os t u w), λ w. (let e = w.2 in absurd cc))
  meets_part os (function ts v) t u = (λ w. absurd (no_parts os t u w), λ w. (let e = w.2 in absurd cc))
  meets_part os (tuple ts) t u = some_parts os ts t u
  meets_part os (named s rs ts) t u =
      let fields = (struct_at structs s).fields in
      let both = some_parts os (put_in_all rs ts fields) t u in (
        λ w. (let p = both.0 w in (p.0, p.1, sym (type_at_put rs ts fields p.0) ∙ p.2)),
        λ w. both.1 (w.0, w.1, type_at_put rs ts fields w.0 ∙ w.2),
      )

  -- the first type is that of what goes to a place, part or parameter of the second
  abbrev pub Meet : Statement ℕ TypeTree → TypeTree → TypeTree → Type 0
  Meet (assign p op) t u = (operand_type structs variables op ≡ Some t) × (type_of structs variables p ≡ Some u)
  Meet (borrow p r m q) t u =
      (inner : TypeTree) × (type_of structs variables q ≡ Some inner) × (t ≡ reference r m inner)
      × (type_of structs variables p ≡ Some u)
  Meet (make p made ops) t u =
      ((k : ℕ) × (op : Operand) × (slice_get ops k ≡ Some op) × (operand_type structs variables op ≡ Some t)
      × (behind structs (Field k) made ≡ Some u))
      ⊎ ((t ≡ made) × (type_of structs variables p ≡ Some u))
  Meet (switch op bs) t u = (operand_type structs variables op ≡ Some t) × (u ≡ int)
  Meet (call p args result wheres b unwind) t u =
      ((k : ℕ) × (op : Operand) × (slice_get args k ≡ Some (op, u)) × (operand_type structs variables op ≡ Some t))
      ⊎ ((t ≡ result) × (type_of structs variables p ≡ Some u))
  Meet _ t u = ⊥

  nothing : (t u : TypeTree) → Contains {X = Pair} [] (Some t, Some u) → ⊥
  nothing t u w = (let l = w.1 in omega arith)

  some_is : {X : Type 0} (a b : X) → Some a ≡ Some b → a ≡ b
  some_is a b e = cc

  inner_of : (r : ℕ) (m : Bool) (o : Option TypeTree) (t : TypeTree) → reference_to r m o ≡ Some t
      → (inner : TypeTree) × (o ≡ Some inner) × (t ≡ reference r m inner)
  inner_of r m None t e = absurd cc
  inner_of r m (Some inner) t e = (inner, refl, cc)

  -- the pair of what goes to the place that is written
  last_is : (made t u : TypeTree) (p : PlacePath)
      → Contains {X = Pair} ((Some made, type_of structs variables p) ∷ []) (Some t, Some u)
      ↔ ((t ≡ made) × (type_of structs variables p ≡ Some u))
  last_is made t u p = grind (arith, parts_equal, one_is, some_is, one_there, pair_equal)

  -- The types that meet are those of the pairs.
  pub pairs_meet : (i : Statement ℕ TypeTree) (t u : TypeTree)
      → Contains (type_pairs structs variables i) (Some t, Some u) ↔ Meet i t u
  pairs_meet (assign p op) t u = (
    λ w. parts_equal (operand_type structs variables op) (type_of structs variables p) (Some t) (Some u) (one_is _ _ w),
    λ w. one_there _ _ (pair_equal (operand_type structs variables op) (type_of structs variables p) (Some t)
        (Some u) w.0 w.1),
  )
  pairs_meet (borrow p r m q) t u = grind (arith, parts_equal, one_is, inner_of, one_there, pair_equal)
  pairs_meet (make p made ops) t u =
      let os = operand_types structs variables ops in
      let parts = beside_parts os (parts_of_type structs made) in
      let last = (Some made, type_of structs variables p) ∷ [] in
      let meets = meets_part os made t u in
      let written = last_is made t u p in (
        λ w. ⊎_elim
            (λ c. (let m = meets.0 c in let o = of_mapped (operand_type structs variables) ops m.0 (Some t) m.1 in
            inl (m.0, o.0, o.1, o.2, m.2)))
            (λ c. inr (written.0 c))
            (Contains-append_cases parts last (Some t, Some u) w),
        ⊎_elim
            (λ m. Contains-append_left parts last (Some t, Some u)
            (meets.1 (m.0, to_mapped (operand_type structs variables) ops m.0 m.1 m.2 ∙ ap Some m.3, m.4)))
            (λ m. Contains-append_right parts last (Some t, Some u) (written.1 m)),
      )
  pairs_meet (switch op bs) t u = grind (arith, parts_equal, one_is, some_is, one_there, pair_equal)
  pairs_meet (call p args result wheres b unwind) t u =
      let f : Operand × TypeTree → Pair = λ a. (operand_type structs variables a.0, Some a.1) in
      let inputs = map f args in
      let last = (Some result, type_of structs variables p) ∷ [] in
      let written = last_is result t u p in (
        λ w. ⊎_elim
            (λ c.
            let at = at_place inputs (Some t, Some u) c in
            let a = of_mapped f args at.0 (Some t, Some u) at.1 in
            let e = parts_equal (operand_type structs variables a.0.0) (Some a.0.1) (Some t) (Some u) a.2 in
            inl (at.0, a.0.0, a.1 ∙ ap (λ (v : TypeTree). Some (a.0.0, v)) (some_is a.0.1 u e.1), e.0))
            (λ c. inr (written.0 c))
            (Contains-append_cases inputs last (Some t, Some u) w),
        ⊎_elim
            (λ m. Contains-append_left inputs last (Some t, Some u)
            (there inputs m.0 (Some t, Some u) (to_mapped f args m.0 (m.1, u) m.2
            ∙ ap (λ (o : Option TypeTree). Some (o, Some u)) m.3)))
            (λ m. Contains-append_right inputs last (Some t, Some u) (written.1 m)),
      )
  pairs_meet (read p) t u = (λ w. nothing t u w, λ w. absurd w)
  pairs_meet (live x) t u = (λ w. nothing t u w, λ w. absurd w)
  pairs_meet (dead x) t u = (λ w. nothing t u w, λ w. absurd w)
  pairs_meet nop t u = (λ w. nothing t u w, λ w. absurd w)
  pairs_meet (goto b) t u = (λ w. nothing t u w, λ w. absurd w)
  pairs_meet (drop x b unwind) t u = (λ w. nothing t u w, λ w. absurd w)
  pairs_meet return t u = (λ w. nothing t u w, λ w. absurd w)
  pairs_meet stop t u = (λ w. nothing t u w, λ w. absurd w)
