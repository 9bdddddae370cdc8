-- The shapes of types that are made, where some are taken off.
use Rattle.std.proofs.Common.{◌≡◌, ℕ, true, suc, ◌-◌, List, [], ◌∷◌, length, take, drop, refl, ap, arith}
use Rattle.std.proofs.lemmas.List.{get_or-drop, get_or-take, length-drop, length-take}
use Rattle.std.specs.Prelude.{OnOk, Ok, Err}
use Rattle.std.specs.declared.result.Result.{Result}
use Rattle.nll_types.specs.Shapes.{shapes_of}
use Rattle.nll_types.specs.Table.{AreBelow, Extends, all_at, shapes_in}
use Rattle.nll_types.specs.Types.{TypeTree}
use Rattle.nll_types.specs.Views.{row_of_trees}
use Rattle.nll_types.specs.declared.node.Node.{Node}
use Rattle.nll_types.specs.declared.body_types.BodyTypes.{BodyTypes}
use Rattle.nll_mir_grammar.specs.TypeTexts.{Piece}
use Rattle.nll_mir_text.specs.Naming.{Scope}
use Rattle.nll_mir_text.specs.Resolving.{AreShaped, IsOf, Resolves, ResolvingState, after_resolved, all_but_last}
use Rattle.nll_mir_text.specs.declared.type_resolution.Resolving.{Resolving}

-- what follows from two facts on a call that was done
pub both_ok : {T E : Type 0} {P Q R : Type 0} (r : Result T E) → (P → Q → R) → OnOk r P → OnOk r Q → OnOk r R
both_ok (Ok x) f p q = f p q
both_ok (Err y) f p q = tt

module _ (shapes : List Node) where
  -- all but the first, those from a place on, and those in front of it
  shaped_rest : (t : TypeTree) (ts : List TypeTree) (i : ℕ) (is : List ℕ) → AreShaped shapes (t ∷ ts) (i ∷ is)
      → AreShaped shapes ts is
  shaped_rest t ts i is a = record {
    counted = omega (arith, a.counted);
    each = λ k l. a.each (suc k) (omega (arith, l));
  }

  shaped_drop : (n : ℕ) (ts : List TypeTree) (is : List ℕ) → AreShaped shapes ts is
      → AreShaped shapes (drop n ts) (drop n is)
  shaped_drop n ts is a = grind (arith, length-drop, get_or-drop)

  shaped_take : (n : ℕ) (ts : List TypeTree) (is : List ℕ) → AreShaped shapes ts is
      → AreShaped shapes (take n ts) (take n is)
  shaped_take n ts is a = grind (arith, length-take, get_or-take)

  -- the shapes of types in a row
  row_shaped : (ts : List TypeTree) (is : List ℕ) → AreShaped shapes ts is
      → all_at (shapes_in shapes) is ≡ shapes_of (row_of_trees ts)
  row_shaped [] [] a = refl
  row_shaped (t ∷ ts) (i ∷ is) a =
      let here = a.each 0 (omega arith) in
      let rest = row_shaped ts is (shaped_rest t ts i is a) in
      cc
  row_shaped [] (i ∷ is) a = absurd (omega (arith, a.counted))
  row_shaped (t ∷ ts) [] a = absurd (omega (arith, a.counted))

  -- where the types from a place on are taken: those that stay, and those in the row
  pub front_taken : (n m : ℕ) (ts : List TypeTree) (is left : List ℕ) → AreShaped shapes ts is → left ≡ take n is
      → n ≡ m → AreShaped shapes (take m ts) left
  front_taken n m ts is left a e f = rw (e, f) (shaped_take m ts is a)

  pub row_taken : (n m : ℕ) (ts : List TypeTree) (is row : List ℕ) → AreShaped shapes ts is → row ≡ drop n is
      → n ≡ m → all_at (shapes_in shapes) row ≡ shapes_of (row_of_trees (drop m ts))
  row_taken n m ts is row a e f = rw (e, f) (row_shaped (drop m ts) (drop m is) (shaped_drop m ts is a))

-- numbers keep their shapes where a table grows
pub shaped_kept : (old new : List Node) (ts : List TypeTree) (is : List ℕ) → Extends old new
    → AreBelow (length old) is → AreShaped old ts is → AreShaped new ts is
shaped_kept old new ts is e b a = grind arith

-- where the newest is taken
pub older_taken : (shapes : List Node) (ts : List TypeTree) (is left : List ℕ)
    → AreShaped shapes ts is → left ≡ all_but_last is → AreShaped shapes (all_but_last ts) left
older_taken shapes ts is left a e =
    front_taken shapes (length is - 1) (length ts - 1) ts is left a e (ap (λ n. n - 1) a.counted)

-- a piece whose name, if it has one, is known
pub piece_done : (s : Scope) (p : Piece) (types : BodyTypes) (kept : Resolving) (types_new : BodyTypes)
    (kept_new : Resolving) → AreBelow (length types_new.table.shapes) kept_new.shapes.items
    → ((st : ResolvingState) → IsOf st types kept → IsOf (after_resolved s p st) types_new kept_new)
    → Resolves s p types kept types_new kept_new true
piece_done s p types kept types_new kept_new below made =
    record { below = below; made = λ e st a. made st a; unknown = λ e. absurd (cc); same = λ e. absurd (cc) }
