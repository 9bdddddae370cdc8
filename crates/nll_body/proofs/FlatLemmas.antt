-- What numbers stand for stays as it is where the lists go on.
use Rattle.std.proofs.Common.{◌≡◌, ℕ, zero, suc, Bool, subst, ◌-◌, ◌<◌, ◌≤◌, true, false, nat_lt, List, [], ◌∷◌, ◌++◌, length, map, refl, ap, ◌∙◌, All, arith}
use Rattle.std.specs.Prelude.{Option, Some, None, option_map, unwrap_or, slice_get}
use Rattle.std.proofs.lemmas.Bool.Decides.{nat_tests}
use Rattle.std.proofs.lemmas.List.{length-append, length-drop, take-append-le, drop-append-le}
use Rattle.std.proofs.lemmas.List.Elements.{All-drop, All-head, All-tail, All-take, All-weaker}
use Rattle.std.proofs.lemmas.Option.{slice_get_within, get_or_from_slice_get}
use Rattle.nll_sets.specs.Prefix.{IsPrefix}
use Rattle.nll_sets.proofs.PrefixLemmas.{prefix_same, prefix_further}
use Rattle.nll_types.specs.Operands.{Operand, copied, moved}
use Rattle.nll_types.specs.Places.{PlacePath}
use Rattle.nll_types.specs.declared.typed.Typed.{Typed}
use Rattle.nll_body.specs.Statements.{Statement, make, read, nop}
use Rattle.nll_body.specs.Flat.{StatementLists, argument_in, call_in, first_part, listed, make_in, operand_in, part_in, path_in, sliced, statement_in, statements_in, switch_in, whole}
use Rattle.nll_body.specs.Within.{AddsPlaces, AreFlatOperands, AreWithin, ListsGoOn, ListsGrow, IsCallIn, IsFlatOperand, IsListedSlice, IsNumberOf, IsMakeIn, IsOperandIn, IsPlaceIn, IsSlice, IsStatementIn, IsSwitchIn}
use Rattle.nll_body.specs.declared.flat.Slice.{Slice}
use Rattle.nll_body.specs.declared.flat.PartPlace.{PartPlace}
use Rattle.nll_body.specs.declared.flat.FlatOperand.{FlatOperand}
use Rattle.nll_body.specs.declared.flat.FlatOperand.TheVariants.{Const, Copy, Move}
use Rattle.nll_body.specs.declared.flat.FlatMake.{FlatMake}
use Rattle.nll_body.specs.declared.flat.FlatCall.{FlatCall}
use Rattle.nll_body.specs.declared.flat.FlatSwitch.{FlatSwitch}
use Rattle.nll_body.specs.declared.flat.Stmt.{Stmt}
use Rattle.nll_body.specs.declared.flat.Stmt.TheVariants as flat

-- ---- lists that go on
module _ {X : Type 0} where
  pub longer : (xs ys : List X) → IsPrefix xs ys → length xs ≤ length ys
  longer xs ys p = rw p.1 (rw length-append (omega arith))

  slice_kept : (xs ys : List X) (s : Slice) → IsPrefix xs ys → IsSlice xs s → IsSlice ys s
  slice_kept xs ys s p within = let l = longer xs ys p in omega arith

  slice_same : (xs ys : List X) (s : Slice) → IsPrefix xs ys → IsSlice xs s → sliced ys s ≡ sliced xs s
  slice_same xs ys s p within = grind (arith, drop-append-le, take-append-le, length-drop)

  pub listed_kept : (xs ys zs : List X) (s : Slice) → IsPrefix xs ys → IsListedSlice xs zs s → IsListedSlice ys zs s
  listed_kept xs ys zs s p is = (slice_kept xs ys s p is.0, slice_same xs ys s p is.0 ∙ is.1)

  item_before : (xs rest : List X) (n : ℕ) → n < length xs → slice_get (xs ++ rest) n ≡ slice_get xs n
  item_before [] rest n l = absurd (omega arith)
  item_before (x ∷ xs) rest zero l = refl
  item_before (x ∷ xs) rest (suc n) l = item_before xs rest n (omega arith)

  item_same : (xs ys : List X) (n : ℕ) → IsPrefix xs ys → n < length xs → slice_get ys n ≡ slice_get xs n
  item_same xs ys n p l = ap (λ zs. slice_get zs n) p.1 ∙ item_before xs p.0 n l

  item_of : (P : X → Type 0) (xs : List X) (n : ℕ) (x : X) → All P xs → slice_get xs n ≡ Some x → P x
  item_of P xs n x all is = subst P (get_or_from_slice_get xs n x x is) (all n x (slice_get_within xs n x is))

  slice_all : (P : X → Type 0) (xs : List X) (s : Slice) → All P xs → All P (sliced xs s)
  slice_all P xs s all = All-take P s.count _ (All-drop P s.first xs all)

  pub map_same : {Y : Type 0} {P : X → Type 0} (f h : X → Y) (same : (x : X) → P x → f x ≡ h x) (xs : List X)
      → All P xs → map f xs ≡ map h xs
  map_same f h same [] all = refl
  map_same {P = P} f h same (x ∷ xs) all =
      ap (λ y. y ∷ map f xs) (same x (All-head P x xs all))
      ∙ ap (λ ys. h x ∷ ys) (map_same f h same xs (All-tail P x xs all))

  listed_same : {P : X → Type 0} (f h : X → Statement ℕ Typed) (same : (x : X) → P x → f x ≡ h x) (xs ys : List X)
      (n : ℕ) → IsPrefix xs ys → n < length xs → All P xs → listed f ys n ≡ listed h xs n
  listed_same {P} f h same xs ys n p l all =
      ap (λ o. unwrap_or (option_map f o) nop) (item_same xs ys n p l) ∙ go (slice_get xs n) refl
    where
      go : (o : Option X) → slice_get xs n ≡ o → unwrap_or (option_map f o) nop ≡ unwrap_or (option_map h o) nop
      go None is = refl
      go (Some x) is = same x (item_of P xs n x all is)

-- ---- what goes on from step to step
pub on_further : (l m n : StatementLists) → ListsGoOn l m → ListsGoOn m n → ListsGoOn l n
on_further l m n g h = record {
  parts = prefix_further _ _ _ g.parts h.parts;
  projections = prefix_further _ _ _ g.projections h.projections;
  operands = prefix_further _ _ _ g.operands h.operands;
  arguments = prefix_further _ _ _ g.arguments h.arguments;
  pairs = prefix_further _ _ _ g.pairs h.pairs;
  blocks = prefix_further _ _ _ g.blocks h.blocks;
  makes = prefix_further _ _ _ g.makes h.makes;
  calls = prefix_further _ _ _ g.calls h.calls;
  switches = prefix_further _ _ _ g.switches h.switches;
}

pub grows_further : (l m n : StatementLists) → ListsGrow l m → ListsGrow m n → ListsGrow l n
grows_further l m n g h = record {
  points = h.points ∙ g.points;
  lists = on_further l m n g.lists h.lists;
}

-- places that are added
pub places_grow : (l m : StatementLists) → AddsPlaces l m → ListsGrow l m
places_grow l m a = rw a.others record {
  points = refl;
  lists = grind (arith, prefix_same);
}

-- ---- what is within the lists stays as it is
module _ (old new : StatementLists) (w : AreWithin old) (g : ListsGoOn old new) where
  place_kept : (n : ℕ) → IsPlaceIn old n → IsPlaceIn new n
  place_kept n within = let l = longer _ _ g.parts in omega arith

  pub operand_kept : (o : FlatOperand) → IsOperandIn old o → IsOperandIn new o
  operand_kept Const within = tt
  operand_kept (Copy n) within = place_kept n within
  operand_kept (Move n) within = place_kept n within

  pub make_kept : (m : FlatMake) → IsMakeIn old m → IsMakeIn new m
  make_kept m within = (place_kept m.place within.0, slice_kept _ _ m.operands g.operands within.1)

  pub call_kept : (c : FlatCall) → IsCallIn old c → IsCallIn new c
  call_kept c within = (
    place_kept c.place within.0,
    slice_kept _ _ c.arguments g.arguments within.1,
    slice_kept _ _ c.wheres g.pairs within.2,
  )

  pub switch_kept : (s : FlatSwitch) → IsSwitchIn old s → IsSwitchIn new s
  switch_kept s within = (operand_kept s.operand within.0, slice_kept _ _ s.blocks g.blocks within.1)

  pub statement_kept : (s : Stmt) → IsStatementIn old s → IsStatementIn new s
  statement_kept (flat.Assign p o) within = (place_kept p within.0, operand_kept o within.1)
  statement_kept (flat.Borrow m p r q) within = (place_kept p within.0, place_kept q within.1)
  statement_kept (flat.Make n) within = let l = longer _ _ g.makes in omega arith
  statement_kept (flat.Read p) within = place_kept p within
  statement_kept (flat.Switch n) within = let l = longer _ _ g.switches in omega arith
  statement_kept (flat.Call n) within = let l = longer _ _ g.calls in omega arith
  statement_kept (flat.Live x) within = tt
  statement_kept (flat.Dead x) within = tt
  statement_kept flat.Nop within = tt
  statement_kept (flat.Goto b) within = tt
  statement_kept (flat.Drop x b) within = tt
  statement_kept (flat.DropUnwind x b unwind) within = tt
  statement_kept flat.Return within = tt
  statement_kept flat.Stop within = tt

  part_same : (p : PartPlace) → IsSlice old.projections p.projections → part_in new p ≡ part_in old p
  part_same p within =
      ap (λ qs. record { variable = p.variable; projections = qs }) (slice_same _ _ p.projections g.projections within)

  place_same : (n : ℕ) → IsPlaceIn old n → path_in new n ≡ path_in old n
  place_same n within = go (nat_lt n first_part) refl
    where
      listed_part : (o : Option PartPlace) → slice_get old.parts (n - first_part) ≡ o
          → unwrap_or (option_map (part_in new) o) (whole n) ≡ unwrap_or (option_map (part_in old) o) (whole n)
      listed_part None is = refl
      listed_part (Some p) is = part_same p
          (item_of (λ q. IsSlice old.projections q.projections) old.parts (n - first_part) p w.parts is)

      go : (b : Bool) → nat_lt n first_part ≡ b → path_in new n ≡ path_in old n
      go true is = rw is refl
      go false is = grind (arith, item_same, nat_tests, listed_part)

  pub operand_same : (o : FlatOperand) → IsOperandIn old o → operand_in new o ≡ operand_in old o
  operand_same Const within = refl
  operand_same (Copy n) within = ap copied (place_same n within)
  operand_same (Move n) within = ap moved (place_same n within)

  pub argument_same : (a : FlatOperand × Typed) → IsOperandIn old a.0 → argument_in new a ≡ argument_in old a
  argument_same a within = ap (λ o. (o, a.1)) (operand_same a.0 within)

  operands_same : (s : Slice) → IsSlice old.operands s
      → map (operand_in new) (sliced new.operands s) ≡ map (operand_in old) (sliced old.operands s)
  operands_same s within =
      ap (map (operand_in new)) (slice_same _ _ s g.operands within)
      ∙ map_same _ _ operand_same _ (slice_all (IsOperandIn old) _ s w.operands)

  arguments_same : (s : Slice) → IsSlice old.arguments s
      → map (argument_in new) (sliced new.arguments s) ≡ map (argument_in old) (sliced old.arguments s)
  arguments_same s within =
      ap (map (argument_in new)) (slice_same _ _ s g.arguments within)
      ∙ map_same _ _ argument_same _ (slice_all (λ a. IsOperandIn old a.0) _ s w.arguments)

  make_same : (m : FlatMake) → IsMakeIn old m → make_in new m ≡ make_in old m
  make_same m within =
      ap (λ p. make p m.ty (map (operand_in new) (sliced new.operands m.operands))) (place_same m.place within.0)
      ∙ ap (make (path_in old m.place) m.ty) (operands_same m.operands within.1)

  pub call_same : (c : FlatCall) → IsCallIn old c → call_in new c ≡ call_in old c
  call_same c within =
      let place = place_same c.place within.0 in
      let arguments = arguments_same c.arguments within.1 in
      let pairs = slice_same _ _ c.wheres g.pairs within.2 in
      cc

  switch_same : (s : FlatSwitch) → IsSwitchIn old s → switch_in new s ≡ switch_in old s
  switch_same s within = grind (arith, operand_same, slice_same)

  pub statement_same : (s : Stmt) → IsStatementIn old s → statement_in new s ≡ statement_in old s
  statement_same (flat.Assign p o) within = grind (arith, place_same, operand_same)
  statement_same (flat.Borrow m p r q) within =
      let target = place_same p within.0 in
      let source = place_same q within.1 in
      cc
  statement_same (flat.Make n) within =
      listed_same (make_in new) (make_in old) make_same _ _ n g.makes within w.makes
  statement_same (flat.Read p) within = ap read (place_same p within)
  statement_same (flat.Switch n) within =
      listed_same (switch_in new) (switch_in old) switch_same _ _ n g.switches within w.switches
  statement_same (flat.Call n) within =
      listed_same (call_in new) (call_in old) call_same _ _ n g.calls within w.calls
  statement_same (flat.Live x) within = refl
  statement_same (flat.Dead x) within = refl
  statement_same flat.Nop within = refl
  statement_same (flat.Goto b) within = refl
  statement_same (flat.Drop x b) within = refl
  statement_same (flat.DropUnwind x b unwind) within = refl
  statement_same flat.Return within = refl
  statement_same flat.Stop within = refl

  pub statements_same : new.points ≡ old.points → statements_in new ≡ statements_in old
  statements_same points = ap (map (statement_in new)) points ∙ map_same _ _ statement_same old.points w.points

  -- what numbers stand for
  pub number_kept : (p : PlacePath) (n : ℕ) → IsNumberOf old p n → IsNumberOf new p n
  number_kept p n is = (place_kept n is.0, place_same n is.0 ∙ is.1)

  pub flat_operand_kept : (o : Operand) (op : FlatOperand) → IsFlatOperand old o op → IsFlatOperand new o op
  flat_operand_kept o op is = (operand_kept op is.0, operand_same op is.0 ∙ is.1)

  pub operands_kept : (os : List Operand) (s : Slice) → AreFlatOperands old os s → AreFlatOperands new os s
  operands_kept os s are = (slice_kept _ _ s g.operands are.0, operands_same s are.0 ∙ are.1)

  -- the items of each list are within the new ones
  pub parts_within : All (λ p. IsSlice new.projections p.projections) old.parts
  parts_within = All-weaker _ _ (λ p. slice_kept _ _ p.projections g.projections) _ w.parts

  pub operands_within : All (IsOperandIn new) old.operands
  operands_within = All-weaker _ _ operand_kept _ w.operands

  pub arguments_within : All (λ a. IsOperandIn new a.0) old.arguments
  arguments_within = All-weaker _ _ (λ a. operand_kept a.0) _ w.arguments

  pub makes_within : All (IsMakeIn new) old.makes
  makes_within = All-weaker _ _ make_kept _ w.makes

  pub calls_within : All (IsCallIn new) old.calls
  calls_within = All-weaker _ _ call_kept _ w.calls

  pub switches_within : All (IsSwitchIn new) old.switches
  switches_within = All-weaker _ _ switch_kept _ w.switches

  pub points_within : All (IsStatementIn new) old.points
  points_within = All-weaker _ _ statement_kept _ w.points
