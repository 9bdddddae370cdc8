-- What is put behind the flat lists.
use Rattle.std.proofs.Common.{◌≡◌, ℕ, false, nat_lt, ◌-◌, ◌+◌, ◌<◌, ◌≤◌, List, [], ◌∷◌, ◌++◌, get_or, length, map, take, drop, refl, sym, ap, ◌∙◌, All, arith, rules}
use Rattle.std.specs.Prelude.{Some, option_map, unwrap_or, slice_get}
use Rattle.std.proofs.lemmas.Bool.Decides.{nat_tests}
use Rattle.std.proofs.lemmas.List.{length-append, length-drop, length_push, drop_at, drop-append-le, take_all, map_more, map_push}
use Rattle.std.proofs.lemmas.List.Elements.{All-drop, All-push}
use Rattle.nll_sets.specs.Prefix.{IsPrefix}
use Rattle.nll_sets.proofs.PrefixLemmas.{prefix_same}
use Rattle.nll_types.specs.Operands.{Operand}
use Rattle.nll_types.specs.Places.{PlacePath}
use Rattle.nll_types.specs.declared.place.Projection.{Projection}
use Rattle.nll_types.specs.declared.typed.Typed.{Typed}
use Rattle.nll_body.specs.Statements.{Statement, make, nop, switch}
use Rattle.nll_body.specs.Flat.{StatementLists, argument_in, call_in, first_part, listed, make_in, operand_in, statement_in, statements_in, switch_in}
use Rattle.nll_body.specs.Within.{AddsArguments, AddsPlaces, AreFlatOperands, AreWithin, ListsGoOn, ListsGrow, IsCallIn, IsFlatStatement, IsFlatOperand, IsListedSlice, IsMakeIn, IsNumberOf, IsOperandIn, IsStatementIn, IsSwitchIn}
use Rattle.nll_body.specs.declared.flat.Slice.{Slice}
use Rattle.nll_body.specs.declared.flat.PartPlace.{PartPlace}
use Rattle.nll_body.specs.declared.flat.FlatOperand.{FlatOperand}
use Rattle.nll_body.specs.declared.flat.FlatMake.{FlatMake}
use Rattle.nll_body.specs.declared.flat.FlatCall.{FlatCall}
use Rattle.nll_body.specs.declared.flat.FlatSwitch.{FlatSwitch}
use Rattle.nll_body.specs.declared.flat.Stmt.{Stmt}
use Rattle.nll_body.specs.declared.flat.Stmt.TheVariants as flat
use Rattle.nll_body.proofs.FlatLemmas.{statement_same, argument_same, grows_further, map_same, on_further, operand_same, places_grow, arguments_within, calls_within, flat_operand_kept, make_kept, call_kept, call_same, makes_within, number_kept, operand_kept, operands_kept, operands_within, parts_within, points_within, statement_kept, switch_kept, switches_within}

module _ {X : Type 0} where
  prefix_more : (xs more : List X) → IsPrefix xs (xs ++ more)
  prefix_more xs more = (more, refl)

  -- a slice at the end of a list
  pub listed_behind : (xs ys : List X) (s : Slice) → s.first ≡ length xs → s.count ≡ length ys
      → IsListedSlice (xs ++ ys) ys s
  listed_behind xs ys s first count = grind (arith, length-append, drop_at, take_all)

  last_item : (xs : List X) (x : X) → slice_get (xs ++ x ∷ []) (length xs) ≡ Some x
  last_item [] x = refl
  last_item (y ∷ xs) x = last_item xs x

  listed_last : (f : X → Statement ℕ Typed) (xs : List X) (x : X) → listed f (xs ++ x ∷ []) (length xs) ≡ f x
  listed_last f xs x = ap (λ o. unwrap_or (option_map f o) nop) (last_item xs x)

  -- what the items behind a place in a list stand for, with one item more
  items_more : {Y : Type 0} (P : X → Type 0) (f h : X → Y) (same : (x : X) → P x → h x ≡ f x) (xs : List X)
      (x : X) (first : ℕ) (ys : List Y) → All P xs → first ≤ length xs → map f (drop first xs) ≡ ys
      → map h (drop first (xs ++ x ∷ [])) ≡ ys ++ h x ∷ []
  items_more P f h same xs x first ys all inside are =
      ap (map h) (drop-append-le first xs (x ∷ []) inside)
      ∙ (map_push h (drop first xs) x
      ∙ ap (λ zs. zs ++ h x ∷ []) (map_same {P = P} h f same (drop first xs) (All-drop P first xs all) ∙ are))

  pub items_all : {Y : Type 0} (f : X → Y) (xs : List X) (first count : ℕ) (ys : List Y) → first + count ≡ length xs
      → map f (drop first xs) ≡ ys → map f (take count (drop first xs)) ≡ ys
  items_all f xs first count ys ends are =
      ap (map f) (take_all count (drop first xs) (rw length-drop (omega arith))) ∙ are

  pub taken_more : {Y : Type 0} (f : X → Y) (xs : List X) (i : ℕ) (x : X) → i < length xs → x ≡ get_or xs i x
      → map f (take i xs) ++ f x ∷ [] ≡ map f (take (i + 1) xs)
  taken_more f xs i x l is = ap (λ y. map f (take i xs) ++ f y ∷ []) is ∙ sym (map_more f xs i x l)

-- ---- a place more
abbrev pub with_part : StatementLists → PartPlace → List Projection → StatementLists
with_part l p more = record l { parts = l.parts ++ p ∷ []; projections = l.projections ++ more }

pub is_part : (l : StatementLists) (p : PartPlace) (more : List Projection) (n : ℕ) (path : PlacePath)
    → n ≡ length l.parts → p.projections.first ≡ length l.projections → p.projections.count ≡ length more
    → p.variable ≡ path.variable → more ≡ path.projections → IsNumberOf (with_part l p more) path (first_part + n)
is_part l p more n path last first count variable projections = (
  rw (last, length_push) (omega arith),
  rw (is_last, behind) (rw (last, last_item) (ap (λ ps. record { variable = p.variable; projections = ps })
      ((listed_behind l.projections more p.projections first count).1 ∙ projections)
      ∙ ap (λ x. record { variable = x; projections = path.projections }) variable)),
)
  where
    is_last : nat_lt (first_part + n) first_part ≡ false
    is_last = grind (arith, nat_tests)

    behind : first_part + n - first_part ≡ n
    behind = omega arith

-- ---- an item more in one list
abbrev pub with_operand : StatementLists → FlatOperand → StatementLists
with_operand l o = record l { operands = l.operands ++ o ∷ [] }

pub on_operand : (l : StatementLists) (o : FlatOperand) → ListsGoOn l (with_operand l o)
on_operand l o = search (rules, prefix_same, prefix_more)

abbrev pub with_argument : StatementLists → FlatOperand × Typed → StatementLists
with_argument l a = record l { arguments = l.arguments ++ a ∷ [] }

pub on_argument : (l : StatementLists) (a : FlatOperand × Typed) → ListsGoOn l (with_argument l a)
on_argument l a = search (rules, prefix_same, prefix_more)

abbrev pub with_make : StatementLists → FlatMake → StatementLists
with_make l m = record l { makes = l.makes ++ m ∷ [] }

pub on_make : (l : StatementLists) (m : FlatMake) → ListsGoOn l (with_make l m)
on_make l m = search (rules, prefix_same, prefix_more)

abbrev pub with_call : StatementLists → FlatCall → StatementLists
with_call l c = record l { calls = l.calls ++ c ∷ [] }

pub on_call : (l : StatementLists) (c : FlatCall) → ListsGoOn l (with_call l c)
on_call l c = search (rules, prefix_same, prefix_more)

abbrev pub with_switch : StatementLists → FlatSwitch → StatementLists
with_switch l s = record l { switches = l.switches ++ s ∷ [] }

pub on_switch : (l : StatementLists) (s : FlatSwitch) → ListsGoOn l (with_switch l s)
on_switch l s = search (rules, prefix_same, prefix_more)

abbrev pub with_point : StatementLists → Stmt → StatementLists
with_point l s = record l { points = l.points ++ s ∷ [] }

pub on_point : (l : StatementLists) (s : Stmt) → ListsGoOn l (with_point l s)
on_point l s = search (rules, prefix_same)

pub grows_operand : (l : StatementLists) (o : FlatOperand) → ListsGrow l (with_operand l o)
grows_operand l o = record { points = refl; lists = on_operand l o }

pub grows_argument : (l m : StatementLists) (a : FlatOperand × Typed) → AddsPlaces l m → ListsGrow l (with_argument m a)
grows_argument l m a places =
    grows_further l m _ (places_grow l m places) (record { points = refl; lists = on_argument m a })

pub grows_call : (l : StatementLists) (c : FlatCall) → ListsGrow l (with_call l c)
grows_call l c = record { points = refl; lists = on_call l c }

pub grows_pairs : (l : StatementLists) (more : List (ℕ × ℕ)) → ListsGrow l (record l { pairs = l.pairs ++ more })
grows_pairs l more = record { points = refl; lists = search (rules, prefix_same, prefix_more) }

pub grows_blocks : (l : StatementLists) (more : List ℕ) → ListsGrow l (record l { blocks = l.blocks ++ more })
grows_blocks l more = record { points = refl; lists = search (rules, prefix_same, prefix_more) }

-- ---- the operands of a tuple or struct, or of a call, with one more
pub operand_added : (l m : StatementLists) (op : FlatOperand) (o : Operand) (first : ℕ) (ys : List Operand)
    → AreWithin l → AreWithin m → AddsPlaces l m → IsFlatOperand m o op → first ≤ length l.operands
    → map (operand_in l) (drop first l.operands) ≡ ys
    → map (operand_in (with_operand m op)) (drop first (m.operands ++ op ∷ [])) ≡ ys ++ o ∷ []
operand_added l m op o first ys w v a is inside are =
    let new = with_operand m op in
    let on : ListsGoOn l new = on_further l m new (places_grow l m a).lists (on_operand m op) in
    let same : m.operands ≡ l.operands = ap (λ n. n.operands) a.others in
    ap (λ xs. map (operand_in new) (drop first (xs ++ op ∷ []))) same
    ∙ (items_more (IsOperandIn l) (operand_in l) (operand_in new) (operand_same l new w on) l.operands op first ys
    w.operands inside are
    ∙ ap (λ y. ys ++ y ∷ []) (operand_same m new v (on_operand m op) op is.0 ∙ is.1))

pub argument_added : (l m : StatementLists) (a : FlatOperand × Typed) (o : Operand) → AreWithin l → AreWithin m
    → AddsPlaces l m → IsFlatOperand m o a.0 → AddsArguments l (with_argument m a) ((o, a.1) ∷ [])
argument_added l m a o w v adds is =
    let new = with_argument m a in
    let on : ListsGoOn l new = on_further l m new (places_grow l m adds).lists (on_argument m a) in
    let same : m.arguments ≡ l.arguments = ap (λ n. n.arguments) adds.others in
    ap (λ xs. map (argument_in new) (xs ++ a ∷ [])) same
    ∙ (items_more (λ b. IsOperandIn l b.0) (argument_in l) (argument_in new) (argument_same l new w on) l.arguments a
    0 _ w.arguments (omega arith) refl
    ∙ ap (λ y. map (argument_in l) l.arguments ++ (y, a.1) ∷ [])
    (operand_same m new v (on_argument m a) a.0 is.0 ∙ is.1))

-- ---- each number still stands for something
pub within_operand : (l : StatementLists) (o : FlatOperand) → AreWithin l → IsOperandIn l o
    → AreWithin (with_operand l o)
within_operand l o w is =
    let new = with_operand l o in
    let g = on_operand l o in
    record {
      parts = parts_within l new w g;
      operands = All-push (IsOperandIn new) l.operands o (operands_within l new w g) (operand_kept l new w g o is);
      arguments = arguments_within l new w g;
      makes = makes_within l new w g;
      calls = calls_within l new w g;
      switches = switches_within l new w g;
      points = points_within l new w g;
    }

pub within_argument : (l : StatementLists) (a : FlatOperand × Typed) → AreWithin l → IsOperandIn l a.0
    → AreWithin (with_argument l a)
within_argument l a w is =
    let new = with_argument l a in
    let g = on_argument l a in
    record {
      parts = parts_within l new w g;
      operands = operands_within l new w g;
      arguments = All-push (λ b. IsOperandIn new b.0) l.arguments a (arguments_within l new w g)
          (operand_kept l new w g a.0 is);
      makes = makes_within l new w g;
      calls = calls_within l new w g;
      switches = switches_within l new w g;
      points = points_within l new w g;
    }

pub within_make : (l : StatementLists) (m : FlatMake) → AreWithin l → IsMakeIn l m → AreWithin (with_make l m)
within_make l m w is =
    let new = with_make l m in
    let g = on_make l m in
    record {
      parts = parts_within l new w g;
      operands = operands_within l new w g;
      arguments = arguments_within l new w g;
      makes = All-push (IsMakeIn new) l.makes m (makes_within l new w g) (make_kept l new w g m is);
      calls = calls_within l new w g;
      switches = switches_within l new w g;
      points = points_within l new w g;
    }

pub within_call : (l : StatementLists) (c : FlatCall) → AreWithin l → IsCallIn l c → AreWithin (with_call l c)
within_call l c w is =
    let new = with_call l c in
    let g = on_call l c in
    record {
      parts = parts_within l new w g;
      operands = operands_within l new w g;
      arguments = arguments_within l new w g;
      makes = makes_within l new w g;
      calls = All-push (IsCallIn new) l.calls c (calls_within l new w g) (call_kept l new w g c is);
      switches = switches_within l new w g;
      points = points_within l new w g;
    }

pub within_switch : (l : StatementLists) (s : FlatSwitch) → AreWithin l → IsSwitchIn l s → AreWithin (with_switch l s)
within_switch l s w is =
    let new = with_switch l s in
    let g = on_switch l s in
    record {
      parts = parts_within l new w g;
      operands = operands_within l new w g;
      arguments = arguments_within l new w g;
      makes = makes_within l new w g;
      calls = calls_within l new w g;
      switches = All-push (IsSwitchIn new) l.switches s (switches_within l new w g) (switch_kept l new w g s is);
      points = points_within l new w g;
    }

pub within_point : (l : StatementLists) (s : Stmt) → AreWithin l → IsStatementIn l s → AreWithin (with_point l s)
within_point l s w is =
    let new = with_point l s in
    let g = on_point l s in
    record {
      parts = parts_within l new w g;
      operands = operands_within l new w g;
      arguments = arguments_within l new w g;
      makes = makes_within l new w g;
      calls = calls_within l new w g;
      switches = switches_within l new w g;
      points = All-push (IsStatementIn new) l.points s (points_within l new w g) (statement_kept l new w g s is);
    }

-- ---- what the number of the last item stands for
pub is_make : (l : StatementLists) (m : FlatMake) (n : ℕ) (p : PlacePath) (os : List Operand) → AreWithin l
    → n ≡ length l.makes → IsNumberOf l p m.place → AreFlatOperands l os m.operands
    → IsFlatStatement (with_make l m) (make p m.ty os) (flat.Make n)
is_make l m n p os w last place operands =
    let new = with_make l m in
    let place' = (number_kept l new w (on_make l m) p m.place place).1 in
    let operands' = (operands_kept l new w (on_make l m) os m.operands operands).1 in
    rw last (rw length_push (omega arith), listed_last (make_in new) l.makes m ∙ cc)

pub is_switch : (l : StatementLists) (s : FlatSwitch) (n : ℕ) (o : Operand) (bs : List ℕ) → AreWithin l
    → n ≡ length l.switches → IsFlatOperand l o s.operand → IsListedSlice l.blocks bs s.blocks
    → IsFlatStatement (with_switch l s) (switch o bs) (flat.Switch n)
is_switch l s n o bs w last operand blocks =
    let new = with_switch l s in
    let operand' = (flat_operand_kept l new w (on_switch l s) o s.operand operand).1 in
    rw last (rw length_push (omega arith), listed_last (switch_in new) l.switches s ∙ cc)

pub is_call : (l : StatementLists) (c : FlatCall) (n : ℕ) → AreWithin l → n ≡ length l.calls → IsCallIn l c
    → IsFlatStatement (with_call l c) (call_in l c) (flat.Call n)
is_call l c n w last is =
    let new = with_call l c in
    rw last (rw length_push (omega arith), listed_last (call_in new) l.calls c ∙ call_same l new w (on_call l c) c is)

-- the statement or terminator at the next point
pub pushed : (l : StatementLists) (s : Stmt) → AreWithin l → IsStatementIn l s
    → statements_in (with_point l s) ≡ statements_in l ++ statement_in l s ∷ []
pushed l s w is = grind (arith, statement_same, on_point, map_push, map_same)
