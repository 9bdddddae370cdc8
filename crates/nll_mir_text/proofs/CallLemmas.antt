-- What is made of a call of the code, part by part.
use Rattle.std.proofs.Common.{◌≡◌, ℕ, ◌+◌, ◌<◌, Bool, true, false, List, [], ◌∷◌, ◌++◌, get_or, length, map, take, drop, refl, sym, ap, ◌∙◌, append_assoc, suc, arith}
use Rattle.std.specs.Prelude.{◌&&◌, All}
use Rattle.std.specs.List.{list_all, flat_map}
use Rattle.std.specs.Borrow.{Bor}
use Rattle.std.proofs.Math.Bool.{and-true, and-false, and_assoc}
use Rattle.std.proofs.lemmas.List.{map_more, map_push, take_more, take_all, take-map, drop-map, drop_at, length-append, length-map, append-nil}
use Rattle.std.proofs.lemmas.List.Elements.{All-push}
use Rattle.std.proofs.lemmas.List.Folds.{list_all-append}
use Rattle.nll_format.specs.Names.{number_of}
use Rattle.nll_types.specs.Types.{TypeTree}
use Rattle.nll_types.specs.Places.{PlacePath, path_of}
use Rattle.nll_types.specs.Operands.{Operand, operand_of}
use Rattle.nll_types.specs.Grown.{AddsTypes}
use Rattle.nll_types.specs.Rows.{HasRow}
use Rattle.nll_types.specs.declared.body_types.BodyTypes.{BodyTypes}
use Rattle.nll_types.specs.declared.operand.Operand.{Operand as KeptOperand}
use Rattle.nll_types.specs.declared.typed.Typed.{Typed}
use Rattle.nll_types.proofs.RowLemmas.{tree_is, has_row, tree_later, rows_later}
use Rattle.nll_mir_grammar.specs.WrittenTypes.{WrittenName, WrittenType}
use Rattle.nll_mir_grammar.specs.TypeTexts.{written}
use Rattle.nll_mir_grammar.specs.declared.type_text.TypePiece.{TypePiece}
use Rattle.nll_mir_grammar.specs.Lines.{argument_of, call_of}
use Rattle.nll_mir_grammar.specs.declared.statement.Call.{Call}
use Rattle.nll_body.specs.Flat.{StatementLists, argument_in, call_in}
use Rattle.nll_body.specs.Statements.{Statement, call, types_written}
use Rattle.nll_body.specs.Within.{AddsArguments, AreFlatArguments, AreWithin, ListsGrow, IsCallIn, IsListedSlice, IsNumberOf}
use Rattle.nll_body.specs.declared.flat.FlatCall.{FlatCall}
use Rattle.nll_body.specs.declared.flat.Slice.{Slice}
use Rattle.nll_body.proofs.FlatLemmas.{grows_further, listed_kept, number_kept}
use Rattle.nll_mir_text.specs.Naming.{Scope, is_name_among, is_known, has_arguments, meant}
use Rattle.nll_mir_text.specs.Resolution.{IsResolved}
use Rattle.nll_mir_text.specs.ResolvedStatements.{bound_numbers, is_bound, argument_meant, argument_resolved, has_names, AreOfArguments, IsOfStatement}

-- ---- bounds

-- the images of the items so far behind others, with that of one item more
pub behind_more : {X Y : Type 0} (f : X → Y) (new old before : List Y) (y : Y) (xs : List X) (i : ℕ) (d : X)
    → i < length xs → new ≡ old ++ y ∷ [] → y ≡ f (get_or xs i d) → old ≡ before ++ map f (take i xs)
    → new ≡ before ++ map f (take (i + 1) xs)
behind_more f new old before y xs i d within pushed is all = grind (arith, append_assoc, map_more)

-- ---- arguments

module _ (old new : BodyTypes) (grows : AddsTypes old new) where
  meant_kept : (args : List (Operand × Typed))
      → All (HasRow old.table.shapes old.regions.items) (map (λ a. a.1) args)
      → map (argument_resolved new) args ≡ map (argument_resolved old) args
  meant_kept [] h = refl
  meant_kept (a ∷ args) h =
      let here = tree_later _ _ _ _ grows.table.extends grows.regions a.1 (h 0 a.1 (omega arith)) in
      let rest = meant_kept args (λ k d l. h (suc k) d (omega (arith, l))) in
      rw (here, rest) refl

  -- arguments mean what they meant
  pub arguments_later : (s : Scope) (texts : List (KeptOperand × List TypePiece)) (args : List (Operand × Typed))
      → AreOfArguments s texts old args → AreOfArguments s texts new args
  arguments_later s texts args h = record {
    known = h.known;
    rows = rows_later _ _ _ _ grows.table.extends grows.regions _ h.rows;
    meant = meant_kept args h.rows ∙ h.meant;
  }

  -- one argument more
  pub arguments_more : (s : Scope) (texts : List (KeptOperand × List TypePiece)) (i : ℕ) (args : List (Operand × Typed))
      (a : KeptOperand × List TypePiece) (v : Typed) → i < length texts → a ≡ get_or texts i a
      → IsResolved s (written a.1) new v → AreOfArguments s (take i texts) old args
      → AreOfArguments s (take (i + 1) texts) new (args ++ (operand_of a.0, v) ∷ [])
  arguments_more s texts i args a v within is of h =
      let kept = arguments_later s (take i texts) args h in
      let more : take (i + 1) texts ≡ take i texts ++ a ∷ [] =
      take_more texts i a within ∙ ap (λ x. take i texts ++ x ∷ []) (sym is) in
      let tree = tree_is _ _ v _ of.typed in
      rw more record {
        known = list_all-append _ (take i texts) (a ∷ []) ∙ rw (kept.known, of.known) refl;
        rows = rw map_push
            (All-push (HasRow new.table.shapes new.regions.items) _ v kept.rows (has_row _ _ v _ of.typed));
        meant = map_push (argument_resolved new) args (operand_of a.0, v)
            ∙ (rw (kept.meant, tree) (sym (map_push (argument_meant s) (take i texts) a)));
      }

-- no argument yet
pub no_arguments : (s : Scope) (types : BodyTypes) → AreOfArguments s [] types []
no_arguments s types = record { known = refl; rows = λ k d l. absurd (omega (arith, l)); meant = refl }

pub none_added : (l : StatementLists) → AddsArguments l l []
none_added l = sym (append-nil _)

pub added_more : (l m n : StatementLists) (args more : List (Operand × Typed)) → AddsArguments l m args
    → AddsArguments m n more → AddsArguments l n (args ++ more)
added_more l m n args more before now = now ∙ (ap (λ as'. as' ++ more) before ∙ append_assoc _ args more)

-- the slice of those that were added
pub added_slice : (s : Scope) (texts : List (KeptOperand × List TypePiece)) (types : BodyTypes)
    (old new : StatementLists) (args : List (Operand × Typed)) (at : Slice) → AreOfArguments s texts types args
    → AddsArguments old new args → at.first ≡ length old.arguments → at.count ≡ length texts
    → AreFlatArguments new args at
added_slice s texts types old new args at of adds first count =
    let many : length args ≡ length texts =
    sym (length-map args (argument_resolved types)) ∙ (ap length of.meant ∙ length-map texts (argument_meant s)) in
    let all : length new.arguments ≡ length old.arguments + length args =
    sym (length-map new.arguments (argument_in new)) ∙ (ap length adds
    ∙ (length-append (map (argument_in old) old.arguments) args
    ∙ ap (λ (n : ℕ). n + length args) (length-map old.arguments (argument_in old)))) in (
      omega arith,
      sym (take-map (argument_in new) at.count (drop at.first new.arguments))
          ∙ (ap (take at.count) (sym (drop-map (argument_in new) at.first new.arguments)
          ∙ (ap (drop at.first) adds
          ∙ drop_at (map (argument_in old) old.arguments) args at.first
          (length-map old.arguments (argument_in old) ∙ sym first)))
          ∙ take_all at.count args (omega arith)),
    )

-- ---- names in calls

-- the names in bounds, one after another
names_of_bounds : (names : List WrittenName) (ws : List (Bor (List ℕ) × Bor (List ℕ)))
    → list_all (is_bound names) ws ≡ list_all (is_name_among names)
    (flat_map (λ (w : WrittenName × WrittenName). w.0 ∷ w.1 ∷ []) (map {B = WrittenName
    × WrittenName} (λ w. (w.0.now, w.1.now)) ws))
names_of_bounds names [] = refl
names_of_bounds names (w ∷ ws) =
    ap (λ b. is_bound names w && b) (names_of_bounds names ws)
    ∙ and_assoc (is_name_among names w.0.now) (is_name_among names w.1.now) _

all_of_texts : (p : WrittenType → Bool) (texts : List (KeptOperand × List TypePiece))
    → list_all (λ a. p (written a.1)) texts
    ≡ list_all p (map (λ (a : Operand × WrittenType). a.1) (map argument_of texts))
all_of_texts p [] = refl
all_of_texts p (a ∷ texts) = ap (λ b. p (written a.1) && b) (all_of_texts p texts)

texts_fused : (s : Scope) (args : List (KeptOperand × List TypePiece))
    → map {B = Operand × TypeTree} (λ a. (a.0, meant s a.1)) (map argument_of args) ≡ map (argument_meant s) args
texts_fused s [] = refl
texts_fused s (a ∷ args) = ap (λ bs. argument_meant s a ∷ bs) (texts_fused s args)

bounds_fused : (names : List WrittenName) (ws : List (Bor (List ℕ) × Bor (List ℕ)))
    → map {B = ℕ × ℕ} (λ w. (number_of names w.0, number_of names w.1))
    (map {B = WrittenName × WrittenName} (λ w. (w.0.now, w.1.now)) ws)
    ≡ map {B = ℕ × ℕ} (λ w. (w.0, w.1)) (map (bound_numbers names) ws)
bounds_fused names [] = refl
bounds_fused names (w ∷ ws) = ap (λ vs. bound_numbers names w ∷ vs) (bounds_fused names ws)

-- ---- a call

module _ (s : Scope) (c : Call) where
  abbrev line : Statement WrittenName WrittenType
  line = call_of c

  abbrev bounds_known : Bool
  bounds_known = list_all (is_bound s.regions) c.wheres.items

  abbrev of_arguments : (WrittenType → Bool) → Bool
  of_arguments p = list_all (λ a. p (written a.1)) c.arguments.items

  types_of : (p : WrittenType → Bool) → list_all p (types_written line) ≡ (of_arguments p && p (written c.result))
  types_of p =
      list_all-append p _ (written c.result ∷ [])
      ∙ rw (and-true (p (written c.result)), ← all_of_texts p c.arguments.items) refl

  names_of : has_names s line ≡ (bounds_known && (of_arguments (is_known s) && is_known s (written c.result)))
  names_of = rw (← names_of_bounds s.regions c.wheres.items, types_of (is_known s)) refl

  pub bounds_unknown : bounds_known ≡ false → has_names s line ≡ false
  bounds_unknown e = names_of ∙ rw e refl

  pub arguments_unknown : of_arguments (is_known s) ≡ false → has_names s line ≡ false
  arguments_unknown e = names_of ∙ rw e (and-false bounds_known)

  pub result_unknown : is_known s (written c.result) ≡ false → has_names s line ≡ false
  result_unknown e = names_of ∙ rw (e, and-false (of_arguments (is_known s))) (and-false bounds_known)

  -- the flag of a call
  pub call_fits : (old amid new : Bool) → amid ≡ (old && of_arguments (has_arguments s))
      → new ≡ (amid && has_arguments s (written c.result))
      → new ≡ (old && list_all (has_arguments s) (types_written line))
  call_fits old amid new front back =
      rw (back, front, types_of (has_arguments s)) (and_assoc old _ _)

  -- the call over numbers
  pub call_resolved : (types : BodyTypes) (args : List (Operand × Typed)) (v : Typed) → bounds_known ≡ true
      → AreOfArguments s c.arguments.items types args → IsResolved s (written c.result) types v
      → IsOfStatement s line types
      (call (path_of c.place) args v (map (bound_numbers s.regions) c.wheres.items) c.target c.unwind)
  call_resolved types args v bounds of result =
      let arguments = of.meant ∙ sym (texts_fused s c.arguments.items) in
      let tree = tree_is _ _ v _ result.typed in
      let wheres = bounds_fused s.regions c.wheres.items in
      record {
        known = names_of ∙ rw (bounds, of.known, result.known) refl;
        rows = All-push (HasRow types.table.shapes types.regions.items) _ v of.rows (has_row _ _ v _ result.typed);
        meant = rw (arguments, tree, wheres) refl;
      }

-- the parts of a call that are in the lists stand for these
pub call_parts : (old amid new : StatementLists) (c : FlatCall) (p : PlacePath) (args : List (Operand × Typed))
    (wheres : List (ℕ × ℕ)) → AreWithin old → ListsGrow old amid → ListsGrow amid new → IsNumberOf old p c.place
    → IsListedSlice amid.pairs wheres c.wheres → AreFlatArguments new args c.arguments
    → IsCallIn new c × (call_in new c ≡ call p args c.result wheres c.target c.unwind)
call_parts old amid new c p args wheres within first then place bounds arguments =
    let number = number_kept old new within (grows_further _ _ _ first then).lists p c.place place in
    let pairs = listed_kept _ _ wheres c.wheres then.lists.pairs bounds in
    ((number.0, arguments.0, pairs.0), rw (number.1, arguments.1, pairs.1) refl)
