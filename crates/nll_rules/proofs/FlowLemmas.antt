-- What types at hand ask where they meet.
use Rattle.std.proofs.Common.{◌≡◌, ◌↔◌, ◌⊎◌, ℕ, Bool, true, List, length, map, Option, Some, None, Contains, ap, subst, ⊎_elim, ◌∙◌}
use Rattle.std.specs.Prelude.{All, option_map, slice_get, unwrap_or}
use Rattle.std.proofs.lemmas.List.{length-map}
use Rattle.nll_types.specs.Types.{TypeTree, reference}
use Rattle.nll_types.specs.Operands.{Operand, reference_to}
use Rattle.nll_types.specs.Rows.{HasRow}
use Rattle.nll_types.specs.Shapes.{reference_shape, shape_of}
use Rattle.nll_types.specs.declared.typed.Typed.{Typed}
use Rattle.nll_body.specs.Flat.{StatementLists, argument_in, call_in, make_in, operand_in, path_in, sliced, statement_in, switch_in}
use Rattle.nll_body.specs.Meant.{meant_by}
use Rattle.nll_body.specs.Statements.{call, nop}
use Rattle.nll_body.specs.Typing.{agree, types_agree}
use Rattle.nll_body.specs.declared.flat.FlatCall.{FlatCall}
use Rattle.nll_body.specs.declared.flat.FlatMake.{FlatMake}
use Rattle.nll_body.specs.declared.flat.FlatOperand.{FlatOperand}
use Rattle.nll_body.specs.declared.flat.FlatOperand.TheVariants.{Copy, Move}
use Rattle.nll_body.specs.declared.flat.FlatSwitch.{FlatSwitch}
use Rattle.nll_body.specs.declared.flat.Stmt.{Stmt}
use Rattle.nll_body.specs.declared.flat.Stmt.TheVariants as flat
use Rattle.nll_rules.specs.Asking.{AsksInAll}
use Rattle.nll_rules.specs.Flows.{AddsMet, InputsAgree, PartsAgree, inputs_of, place_type, value_type, written_type}
use Rattle.nll_rules.specs.Knowing.{IsAtHand, IsTypeOfRow, KnownTypes}
use Rattle.nll_rules.specs.Pairs.{AddsPairs, AtOne, BothAsk, InputAsks, PartAsks}
use Rattle.nll_rules.specs.Subtyping.{SubtypeAsks}
use Rattle.nll_rules.specs.declared.type_row.TypeRow.{TypeRow}
use Rattle.nll_rules.proofs.AgreeLemmas.{agrees_none, call_agrees, call_inputs, make_agrees, make_parts, none_agrees, one_shape}
use Rattle.nll_rules.proofs.KnowingLemmas.{at_place}
use Rattle.nll_rules.proofs.PairLemmas.{adds_same}
use Rattle.nll_rules.proofs.StatementLemmas.{asks_call, asks_make, asks_nothing, asks_switch, both_there, get_mapped, pairs_seen}

-- ---- types at hand

-- two rows ask what the types that agree ask
pub met : (k : KnownTypes) (c d : TypeRow) (old new : List (ℕ × ℕ))
    → ((t u : TypeTree) → IsTypeOfRow k t c → IsTypeOfRow k u d → shape_of t ≡ shape_of u
    → AddsPairs (SubtypeAsks k.structs t u) old new)
    → (o p : Option TypeTree) → IsAtHand k o (Some c) → IsAtHand k p (Some d) → AddsMet k o p old new
met k c d old new each None p a b agrees = absurd (none_agrees p agrees)
met k c d old new each (Some t) None a b agrees = absurd (agrees_none (Some t) agrees)
met k c d old new each (Some t) (Some u) a b agrees =
    adds_same _ _ old new (both_there k.structs t u) (each t u a b (one_shape t u agrees))

-- and so do a reference to what has the first row, and what has the second
pub met_reference : (k : KnownTypes) (r : ℕ) (c d : TypeRow) (old new : List (ℕ × ℕ))
    → ((m : Bool) (t u : TypeTree) → IsTypeOfRow k t c → IsTypeOfRow k u d
    → reference_shape m (shape_of t) ≡ shape_of u → AddsPairs (SubtypeAsks k.structs (reference r m t) u) old new)
    → (m : Bool) (o p : Option TypeTree) → IsAtHand k o (Some c) → IsAtHand k p (Some d)
    → AddsMet k (reference_to r m o) p old new
met_reference k r c d old new each m None p a b agrees = absurd (none_agrees p agrees)
met_reference k r c d old new each m (Some t) None a b agrees = absurd (agrees_none (Some (reference r m t)) agrees)
met_reference k r c d old new each m (Some t) (Some u) a b agrees =
    adds_same _ _ old new (both_there k.structs (reference r m t) u)
    (each m t u a b (one_shape (reference r m t) u agrees))

-- what is copied or moved is a place
pub of_place : (k : KnownTypes) (op : FlatOperand) (n : ℕ) → (op ≡ Copy n) ⊎ (op ≡ Move n)
    → value_type k op ≡ place_type k n
of_place k op n = ⊎_elim (ap (value_type k)) (ap (value_type k))

-- ---- operands of calls

pub input_row : (k : KnownTypes) (args : List (FlatOperand × Typed)) (n : ℕ) (arg : FlatOperand × Typed)
    → All (HasRow k.shapes k.regions) (map (λ (a : Operand × Typed). a.1) (map (argument_in k.lists) args))
    → slice_get args n ≡ Some arg → HasRow k.shapes k.regions arg.1
input_row k args n arg rows e =
    at_place (HasRow k.shapes k.regions) (map (λ (a : Operand × Typed). a.1) (map (argument_in k.lists) args)) n arg.1
    rows (get_mapped (λ (a : Operand × Typed). a.1) (map (argument_in k.lists) args) n (argument_in k.lists arg)
    (get_mapped (argument_in k.lists) args n arg e))

pub input_is : (k : KnownTypes) (args : List (FlatOperand × Typed)) (n : ℕ) (arg : FlatOperand × Typed)
    → slice_get args n ≡ Some arg
    → slice_get (inputs_of k args) n ≡ Some (operand_in k.lists arg.0, written_type k arg.1)
input_is k args n arg e =
    get_mapped {Y = Operand × TypeTree} (λ (a : Operand × Typed). (a.0, written_type k a.1))
    (map (argument_in k.lists) args) n (argument_in k.lists arg) (get_mapped (argument_in k.lists) args n arg e)

pub inputs_count : (k : KnownTypes) (args : List (FlatOperand × Typed)) → length (inputs_of k args) ≡ length args
inputs_count k args =
    length-map {B = Operand × TypeTree} (map (argument_in k.lists) args) (λ a. (a.0, written_type k a.1))
    ∙ length-map args (argument_in k.lists)

-- ---- what goes by its number

pub made_is : (l : StatementLists) (s : Stmt) (n : ℕ) (m : FlatMake) → s ≡ flat.Make n → slice_get l.makes n ≡ Some m
    → statement_in l s ≡ make_in l m
made_is l s n m e there = ap (statement_in l) e ∙ ap (λ o. unwrap_or (option_map (make_in l) o) nop) there

pub called_is : (l : StatementLists) (s : Stmt) (n : ℕ) (c : FlatCall) → s ≡ flat.Call n
    → slice_get l.calls n ≡ Some c → statement_in l s ≡ call_in l c
called_is l s n c e there = ap (statement_in l) e ∙ ap (λ o. unwrap_or (option_map (call_in l) o) nop) there

-- a switch, and a `nop` where its number stands for nothing, ask nothing
pub switched_asks : (k : KnownTypes) (n : ℕ) (x : ℕ × ℕ)
    → AsksInAll k.structs k.variables (meant_by k.shapes k.regions (statement_in k.lists (flat.Switch n))) x → ⊥
switched_asks k n x = each (slice_get k.lists.switches n)
  where
    each : (o : Option FlatSwitch)
        → AsksInAll k.structs k.variables
        (meant_by k.shapes k.regions (unwrap_or (option_map (switch_in k.lists) o) nop)) x → ⊥
    each None = asks_nothing k.structs k.variables nop x (⊎_elim (λ w. w.2) (λ h. h))
    each (Some s) =
        asks_switch k.structs k.variables (operand_in k.lists s.operand) (sliced k.lists.blocks s.blocks) x

-- ---- makes and calls

module _ (k : KnownTypes) (m : FlatMake) where
  abbrev ops_of : List Operand
  ops_of = map (operand_in k.lists) (sliced k.lists.operands m.operands)

  abbrev MakeAgrees : Type 0
  MakeAgrees = types_agree k.structs k.variables (meant_by k.shapes k.regions (make_in k.lists m)) ≡ true

  pub made_parts : MakeAgrees → PartsAgree k.structs k.variables (written_type k m.ty) ops_of
  made_parts h = make_parts k.structs k.variables (path_in k.lists m.place) (written_type k m.ty) ops_of h

  pub made_agrees : MakeAgrees → agree (Some (written_type k m.ty)) (place_type k m.place) ≡ true
  made_agrees h = make_agrees k.structs k.variables (path_in k.lists m.place) (written_type k m.ty) ops_of h

  pub made_asks : (x : ℕ × ℕ)
      → (AtOne (PartAsks k.structs k.variables (written_type k m.ty) ops_of) x
      ⊎ BothAsk k.structs (Some (written_type k m.ty)) (place_type k m.place) x)
      ↔ AsksInAll k.structs k.variables (meant_by k.shapes k.regions (make_in k.lists m)) x
  made_asks x = asks_make k.structs k.variables (path_in k.lists m.place) (written_type k m.ty) ops_of x

module _ (k : KnownTypes) (c : FlatCall) where
  abbrev args_of : List (Operand × TypeTree)
  args_of = inputs_of k (sliced k.lists.arguments c.arguments)

  abbrev wheres_of : List (ℕ × ℕ)
  wheres_of = sliced k.lists.pairs c.wheres

  abbrev CallAgrees : Type 0
  CallAgrees = types_agree k.structs k.variables (meant_by k.shapes k.regions (call_in k.lists c)) ≡ true

  abbrev seen : List (ℕ × ℕ)
  seen = map {B = ℕ × ℕ} (λ w. (w.0, w.1)) wheres_of

  pub called_inputs : CallAgrees → InputsAgree k.structs k.variables args_of
  called_inputs h =
      call_inputs k.structs k.variables (path_in k.lists c.place) args_of (written_type k c.result) seen c.target
      c.unwind h

  pub called_agrees : CallAgrees → agree (Some (written_type k c.result)) (place_type k c.place) ≡ true
  called_agrees h =
      call_agrees k.structs k.variables (path_in k.lists c.place) args_of (written_type k c.result) seen c.target
      c.unwind h

  pub called_asks : (x : ℕ × ℕ)
      → ((AtOne (InputAsks k.structs k.variables args_of) x
      ⊎ BothAsk k.structs (Some (written_type k c.result)) (place_type k c.place) x) ⊎ Contains wheres_of x)
      ↔ AsksInAll k.structs k.variables (meant_by k.shapes k.regions (call_in k.lists c)) x
  called_asks x =
      subst (λ (ws : List (ℕ × ℕ)). ((AtOne (InputAsks k.structs k.variables args_of) x
      ⊎ BothAsk k.structs (Some (written_type k c.result)) (place_type k c.place) x) ⊎ Contains wheres_of x)
      ↔ AsksInAll k.structs k.variables
      (call (path_in k.lists c.place) args_of (written_type k c.result) ws c.target c.unwind) x) (pairs_seen wheres_of)
      (asks_call k.structs k.variables (path_in k.lists c.place) args_of (written_type k c.result) wheres_of c.target
      c.unwind x)
