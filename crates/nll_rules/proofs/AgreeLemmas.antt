-- What it gives that the types of a statement agree, form by form.
use Rattle.std.proofs.Common.{◌≡◌, ℕ, zero, suc, Bool, true, false, List, [], ◌∷◌, ◌++◌, map, refl, sym, ap, ◌∙◌, Option, Some, None}
use Rattle.std.specs.Prelude.{slice_get, option_map}
use Rattle.std.proofs.lemmas.List.Folds.{list_all-append}
use Rattle.nll_problem.proofs.FactLemmas.{and_true}
use Rattle.nll_types.specs.Types.{TypeTree, TypeTrees, int, parameter, reference, tuple, named, function, none, more, type_at}
use Rattle.nll_types.specs.Structs.{Struct, struct_at, put_in, put_in_all}
use Rattle.nll_types.specs.Places.{PlacePath, type_of, behind}
use Rattle.nll_types.specs.Operands.{Operand, operand_type, reference_to}
use Rattle.nll_types.specs.Shapes.{shape_of}
use Rattle.nll_body.specs.Judging.{agree}
use Rattle.nll_types.specs.declared.place.Projection.TheVariants.{Field}
use Rattle.nll_types.proofs.SameShapeLemmas.{same_shape_decides}
use Rattle.nll_body.specs.Statements.{Statement, assign, borrow, make, call}
use Rattle.nll_body.specs.TypePairs.{beside, beside_parts, operand_types, parts_of_type, type_pairs}
use Rattle.nll_body.specs.Typing.{pairs_agree, types_agree}
use Rattle.nll_rules.specs.Flows.{InputsAgree, PartsAgree}

-- ---- two types that agree

pub one_shape : (t u : TypeTree) → agree (Some t) (Some u) ≡ true → shape_of t ≡ shape_of u
one_shape t u h = (same_shape_decides t u).0 h

pub none_agrees : (other : Option TypeTree) → agree None other ≡ true → ⊥
none_agrees other h = (let e : false ≡ true = h in cc)

pub agrees_none : (one : Option TypeTree) → agree one None ≡ true → ⊥
agrees_none None h = (let e : false ≡ true = h in cc)
agrees_none (Some t) h = (let e : false ≡ true = h in cc)

-- ---- pairs of types

abbrev Pair : Type 0
Pair = Option TypeTree × Option TypeTree

first_agrees : (a b : Option TypeTree) (ps : List Pair) → pairs_agree ((a, b) ∷ ps) ≡ true → agree a b ≡ true
first_agrees a b ps h = (and_true (agree a b) (pairs_agree ps) h).0

later_agree : (a b : Option TypeTree) (ps : List Pair) → pairs_agree ((a, b) ∷ ps) ≡ true → pairs_agree ps ≡ true
later_agree a b ps h = (and_true (agree a b) (pairs_agree ps) h).1

both_agree : (ps qs : List Pair) → pairs_agree (ps ++ qs) ≡ true
    → (pairs_agree ps ≡ true) × (pairs_agree qs ≡ true)
both_agree ps qs h =
    and_true (pairs_agree ps) (pairs_agree qs) (sym (list_all-append (λ (x : Pair). agree x.0 x.1) ps qs) ∙ h)

each_agrees : (ps : List Pair) (k : ℕ) (a b : Option TypeTree) → pairs_agree ps ≡ true
    → slice_get ps k ≡ Some (a, b) → agree a b ≡ true
each_agrees [] k a b h e = absurd cc
each_agrees (p ∷ ps) zero a b h e =
    (let is : p ≡ (a, b) = cc in ap (λ (x : Pair). agree x.0 x.1) (sym is) ∙ first_agrees p.0 p.1 ps h)
each_agrees (p ∷ ps) (suc k) a b h e = each_agrees ps k a b (later_agree p.0 p.1 ps h) e

-- ---- operands and parts

module _ (structs : List Struct) (variables : List TypeTree) where
  beside_agrees : (os : List (Option TypeTree)) (ts : TypeTrees) (k : ℕ) (o : Option TypeTree)
      → pairs_agree (beside os ts) ≡ true → slice_get os k ≡ Some o → agree o (type_at ts k) ≡ true
  beside_agrees [] ts k o h e = absurd cc
  beside_agrees (p ∷ os) none k o h e = absurd (agrees_none p (first_agrees p None (beside os none) h))
  beside_agrees (p ∷ os) (more t ts) zero o h e =
      (let is : p ≡ o = cc in
      ap (λ (z : Option TypeTree). agree z (Some t)) (sym is) ∙ first_agrees p (Some t) (beside os ts) h)
  beside_agrees (p ∷ os) (more t ts) (suc k) o h e =
      beside_agrees os ts k o (later_agree p (Some t) (beside os ts) h) e

  put_at : (rs : List ℕ) (ts us : TypeTrees) (k : ℕ)
      → type_at (put_in_all rs ts us) k ≡ option_map (put_in rs ts) (type_at us k)
  put_at rs ts none k = refl
  put_at rs ts (more u us) zero = refl
  put_at rs ts (more u us) (suc k) = put_at rs ts us k

  no_parts : {A : Type 0} → pairs_agree ((None, None) ∷ []) ≡ true → A
  no_parts h = absurd (none_agrees None (first_agrees None None [] h))

  parts_agree : (os : List (Option TypeTree)) (made : TypeTree) (k : ℕ) (o : Option TypeTree)
      → pairs_agree (beside_parts os (parts_of_type structs made)) ≡ true → slice_get os k ≡ Some o
      → agree o (behind structs (Field k) made) ≡ true
  parts_agree os int k o h e = no_parts h
  parts_agree os (parameter j) k o h e = no_parts h
  parts_agree os (reference r m t) k o h e = no_parts h
  parts_agree os (function ts t) k o h e = no_parts h
  parts_agree os (tuple ts) k o h e = beside_agrees os ts k o h e
  parts_agree os (named s rs ts) k o h e =
      let fields = (struct_at structs s).fields in
      ap (agree o) (sym (put_at rs ts fields k)) ∙ beside_agrees os (put_in_all rs ts fields) k o h e

  mapped : {X Y : Type 0} (f : X → Y) (xs : List X) (k : ℕ) (x : X) → slice_get xs k ≡ Some x
      → slice_get (map f xs) k ≡ Some (f x)
  mapped f [] k x e = absurd cc
  mapped f (y ∷ xs) zero x e = ap (λ o. option_map f o) e
  mapped f (y ∷ xs) (suc k) x e = mapped f xs k x e

  -- ---- statements

  pairs : (i : Statement ℕ TypeTree) → types_agree structs variables i ≡ true
      → pairs_agree (type_pairs structs variables i) ≡ true
  pairs i h = (and_true (pairs_agree (type_pairs structs variables i)) _ h).0

  -- what is assigned and the place
  pub assign_agrees : (p : PlacePath) (op : Operand) → types_agree structs variables (assign p op) ≡ true
      → agree (operand_type structs variables op) (type_of structs variables p) ≡ true
  assign_agrees p op h =
      first_agrees (operand_type structs variables op) (type_of structs variables p) [] (pairs (assign p op) h)

  -- the reference and the place
  pub borrow_agrees : (p : PlacePath) (r : ℕ) (m : Bool) (q : PlacePath)
      → types_agree structs variables (borrow p r m q) ≡ true
      → agree (reference_to r m (type_of structs variables q)) (type_of structs variables p) ≡ true
  borrow_agrees p r m q h =
      first_agrees (reference_to r m (type_of structs variables q)) (type_of structs variables p) []
      (pairs (borrow p r m q) h)

  make_pairs : (p : PlacePath) (made : TypeTree) (ops : List Operand)
      → types_agree structs variables (make p made ops) ≡ true
      → (pairs_agree (beside_parts (operand_types structs variables ops) (parts_of_type structs made)) ≡ true)
      × (pairs_agree ((Some made, type_of structs variables p) ∷ []) ≡ true)
  make_pairs p made ops h =
      both_agree (beside_parts (operand_types structs variables ops) (parts_of_type structs made))
      ((Some made, type_of structs variables p) ∷ []) (pairs (make p made ops) h)

  -- each operand and the part for which it is
  pub make_parts : (p : PlacePath) (made : TypeTree) (ops : List Operand)
      → types_agree structs variables (make p made ops) ≡ true → PartsAgree structs variables made ops
  make_parts p made ops h k op e =
      parts_agree (operand_types structs variables ops) made k (operand_type structs variables op)
      (make_pairs p made ops h).0 (mapped (operand_type structs variables) ops k op e)

  -- what is made and the place
  pub make_agrees : (p : PlacePath) (made : TypeTree) (ops : List Operand)
      → types_agree structs variables (make p made ops) ≡ true
      → agree (Some made) (type_of structs variables p) ≡ true
  make_agrees p made ops h =
      first_agrees (Some made) (type_of structs variables p) [] (make_pairs p made ops h).1

  abbrev Argument : Type 0
  Argument = Operand × TypeTree

  abbrev input_pair : Argument → Pair
  input_pair a = (operand_type structs variables a.0, Some a.1)

  call_pairs : (p : PlacePath) (args : List Argument) (result : TypeTree) (wheres : List (ℕ × ℕ)) (b : ℕ)
      (unwind : Option ℕ) → types_agree structs variables (call p args result wheres b unwind) ≡ true
      → (pairs_agree (map input_pair args) ≡ true)
      × (pairs_agree ((Some result, type_of structs variables p) ∷ []) ≡ true)
  call_pairs p args result wheres b unwind h =
      both_agree (map input_pair args) ((Some result, type_of structs variables p) ∷ [])
      (pairs (call p args result wheres b unwind) h)

  -- each argument of a call and its parameter
  pub call_inputs : (p : PlacePath) (args : List Argument) (result : TypeTree) (wheres : List (ℕ × ℕ)) (b : ℕ)
      (unwind : Option ℕ) → types_agree structs variables (call p args result wheres b unwind) ≡ true
      → InputsAgree structs variables args
  call_inputs p args result wheres b unwind h k op u e =
      each_agrees (map input_pair args) k (operand_type structs variables op) (Some u)
      (call_pairs p args result wheres b unwind h).0 (mapped input_pair args k (op, u) e)

  -- the result and the place
  pub call_agrees : (p : PlacePath) (args : List Argument) (result : TypeTree) (wheres : List (ℕ × ℕ)) (b : ℕ)
      (unwind : Option ℕ) → types_agree structs variables (call p args result wheres b unwind) ≡ true
      → agree (Some result) (type_of structs variables p) ≡ true
  call_agrees p args result wheres b unwind h =
      first_agrees (Some result) (type_of structs variables p) [] (call_pairs p args result wheres b unwind h).1
