-- What is judged of a call, put together.
use Rattle.std.proofs.Common.{◌≡◌, ℕ, zero, suc, ◌<◌, arith, Bool, List, [], ◌∷◌, ◌++◌, map, refl, sym, ap, ◌∙◌, Option, Some, None}
use Rattle.std.specs.Prelude.{◌&&◌}
use Rattle.std.specs.List.{list_all, flat_map}
use Rattle.std.proofs.lemmas.List.Folds.{list_all-append, list_all-map}
use Rattle.nll_types.specs.Types.{TypeTree}
use Rattle.nll_types.specs.Structs.{Struct}
use Rattle.nll_types.specs.Places.{PlacePath, type_of, small_prefixes}
use Rattle.nll_types.specs.Operands.{Operand, operand_type, place_in}
use Rattle.nll_types.specs.Tables.{HaveShapes}
use Rattle.nll_types.specs.Rows.{shape_numbers}
use Rattle.nll_types.specs.Shapes.{is_small, shape_of}
use Rattle.nll_types.specs.Table.{AreBelow, shape_in}
use Rattle.nll_types.specs.declared.node.Node.{Node}
use Rattle.nll_types.specs.declared.typed.Typed.{Typed}
use Rattle.nll_body.specs.Statements.{call}
use Rattle.nll_body.specs.Typing.{agree, types_agree, types_are_small}
use Rattle.nll_body.proofs.JudgedLemmas.{call_order, last_agrees}

-- the types of the operands, and that of the result
pub call_below : {W : Type 0} (n : ℕ) (xs : List (W × Typed)) (v : Typed)
    → AreBelow n (shape_numbers (map (λ a. a.1) xs ++ v ∷ []))
    → AreBelow n (shape_numbers (map (λ a. a.1) xs)) × (v.shape < n)
call_below n [] v b = (λ k l. absurd (omega arith), b 0 (omega arith))
call_below n (x ∷ xs) v b =
    (let rest = call_below n xs v (λ k l. b (suc k) (omega arith)) in
    (below_first (b 0 (omega arith)) rest.0, rest.1))
  where
    below_first : x.1.shape < n → AreBelow n (shape_numbers (map (λ a. a.1) xs))
        → AreBelow n (x.1.shape ∷ shape_numbers (map (λ a. a.1) xs))
    below_first h rest zero l = h
    below_first h rest (suc k) l = rest k (omega arith)

pub call_shapes : {W : Type 0} (ns : List Node) (h : Typed → TypeTree) (xs : List (W × Typed)) (v : Typed)
    → HaveShapes ns (shape_numbers (map (λ a. a.1) xs ++ v ∷ [])) (map h (map (λ a. a.1) xs ++ v ∷ []))
    → HaveShapes ns (shape_numbers (map (λ a. a.1) xs)) (map (λ a. h a.1) xs) × (shape_in ns v.shape ≡ shape_of (h v))
call_shapes ns h [] v e = (refl, cc)
call_shapes ns h (x ∷ xs) v e =
    let here : shape_in ns x.1.shape ≡ shape_of (h x.1) = cc in
    let rest = call_shapes ns h xs v cc in
    let first = rest.0 in
    (cc, rest.1)

map_twice : {X Y Z : Type 0} (f : X → Y) (g : Y → Z) (xs : List X) → map g (map f xs) ≡ map (λ x. g (f x)) xs
map_twice f g [] = refl
map_twice f g (x ∷ xs) = ap (λ zs. g (f x) ∷ zs) (map_twice f g xs)

module _ {X : Type 0} (structs : List Struct) (types : List TypeTree) (op : X → Operand) (h : X → TypeTree)
    (xs : List X) (t : TypeTree) (p : PlacePath) where
  abbrev args : List (Operand × TypeTree)
  args = map (λ x. (op x, h x)) xs

  -- whatever pairs and blocks the call has
  pub call_fits : (list_all (λ x. agree (operand_type structs types (op x)) (Some (h x))) xs && agree (Some t)
      (type_of structs types p))
      ≡ types_agree structs types (call p args t [] 0 None)
  call_fits =
      let met : Operand × TypeTree → Option TypeTree × Option TypeTree =
      λ a. (operand_type structs types a.0, Some a.1) in
      ap (λ (z : Bool). z && agree (Some t) (type_of structs types p))
      (sym (list_all-map (λ (a : Operand × TypeTree). agree (operand_type structs types a.0) (Some a.1))
      (λ x. (op x, h x)) xs)
      ∙ sym (list_all-map (λ (x : Option TypeTree × Option TypeTree). agree x.0 x.1) met args))
      ∙ last_agrees (map met args) (Some t) (type_of structs types p)

  pub call_small : ((list_all (small_prefixes structs types) (flat_map place_in (map op xs))
      && list_all is_small (map h xs)) && (is_small t && small_prefixes structs types p))
      ≡ types_are_small structs types (call p args t [] 0 None)
  call_small = grind (arith, map, call_order, list_all-append, map_twice)

-- ---- operands and types of a call whose operands go by numbers

pub arguments_mapped : {W T : Type 0} (op : W → Operand) (h : T → TypeTree) (xs : List (W × T))
    → map {B = Operand × TypeTree} (λ x. (op x.0, h x.1)) xs
    ≡ map {B = Operand × TypeTree} (λ a. (a.0, h a.1)) (map {B = Operand × T} (λ x. (op x.0, x.1)) xs)
arguments_mapped {W} {T} op h xs =
    sym (map_twice {Y = Operand × T} {Z = Operand × TypeTree} (λ x. (op x.0, x.1)) (λ a. (a.0, h a.1)) xs)

pub types_kept : {W T : Type 0} (op : W → Operand) (xs : List (W × T))
    → map (λ a. a.1) (map {B = Operand × T} (λ x. (op x.0, x.1)) xs) ≡ map (λ x. x.1) xs
types_kept {W} {T} op xs = map_twice {Y = Operand × T} (λ x. (op x.0, x.1)) (λ a. a.1) xs
