-- What is made of a statement of the code, but for a call.
use Rattle.std.proofs.Common.{◌≡◌, ℕ, zero, suc, Bool, true, List, [], ◌∷◌, map, refl, sym, subst, arith, rules}
use Rattle.std.specs.Prelude.{◌&&◌, All}
use Rattle.std.specs.List.{list_all}
use Rattle.std.proofs.Math.Bool.{and-true}
use Rattle.nll_sets.proofs.PrefixLemmas.{prefix_same, prefix_further}
use Rattle.nll_types.specs.Grown.{AddsTypes}
use Rattle.nll_types.specs.Places.{path_of}
use Rattle.nll_types.specs.Operands.{operand_of}
use Rattle.nll_types.specs.declared.body_types.BodyTypes.{BodyTypes}
use Rattle.nll_types.specs.declared.typed.Typed.{Typed}
use Rattle.nll_types.proofs.RowLemmas.{tree_is, has_row}
use Rattle.nll_types.proofs.ShapingLemmas.{extends_same, grows_then}
use Rattle.nll_mir_grammar.specs.WrittenTypes.{WrittenName, WrittenType}
use Rattle.nll_mir_grammar.specs.TypeTexts.{written}
use Rattle.nll_mir_grammar.specs.Lines.{made_of}
use Rattle.nll_mir_grammar.specs.declared.statement.Make.{Make}
use Rattle.nll_body.specs.Flat.{StatementLists}
use Rattle.nll_body.specs.Meant.{meant_by}
use Rattle.nll_body.specs.Statements.{Statement, make, types_written}
use Rattle.nll_body.specs.Within.{ListsGrow, IsFlatStatement}
use Rattle.nll_body.specs.declared.flat.Stmt.{Stmt}
use Rattle.nll_mir_text.specs.Naming.{Scope, has_arguments}
use Rattle.nll_mir_text.specs.Resolution.{IsResolved}
use Rattle.nll_mir_text.specs.ResolvedStatements.{has_names, meant_in, IsFlatOf, IsOfStatement}

-- ---- types and lists that grow

pub adds_same : (a : BodyTypes) → AddsTypes a a
adds_same a = grind (arith, extends_same, prefix_same)

pub adds_then : (a b c : BodyTypes) → AddsTypes a b → AddsTypes b c → AddsTypes a c
adds_then a b c f g = record {
  table = grows_then a.table b.table c.table f.table g.table;
  regions = prefix_further a.regions.items b.regions.items c.regions.items f.regions g.regions;
}

pub grows_same : (l : StatementLists) → ListsGrow l l
grows_same l = record { points = refl; lists = search (rules, prefix_same) }

-- ---- statements

-- nothing of these
none : {X : Type 0} (P : X → Type 0) → All P []
none P k d l = absurd (omega (arith, l))

-- of one alone
alone : {X : Type 0} (P : X → Type 0) (x : X) → P x → All P (x ∷ [])
alone P x h zero d l = h
alone P x h (suc k) d l = absurd (omega (arith, l))

-- the number of a statement over numbers
pub flat_of : (s : Scope) (i : Statement WrittenName WrittenType) (types : BodyTypes) (lists : StatementLists)
    (flat : Stmt)
    (k : Statement ℕ Typed) → IsOfStatement s i types k → IsFlatStatement lists k flat → IsFlatOf s i types lists flat
flat_of s i types lists flat k of is = record { within = is.0; of = subst (IsOfStatement s i types) (sym is.1) of }

-- what is made over numbers
pub made_resolved : (s : Scope) (types : BodyTypes) (m : Make) (v : Typed)
    → IsResolved s (written m.ty) types v
    → IsOfStatement s (made_of m) types (make (path_of m.place) v (map operand_of m.operands.items))
made_resolved s types m v of = grind (arith, and-true, alone, has_row, tree_is)

-- Lists grew by a statement without types, for which the number stands.
pub record IsPut (s : Scope) (i : Statement WrittenName WrittenType) (types : BodyTypes) (old new : StatementLists)
    (flat : Stmt) : Type 0 where
  pub grows : ListsGrow old new
  pub of : IsFlatOf s i types new flat
  pub fits : (b : Bool) → b ≡ (b && list_all (has_arguments s) (types_written i))

pub put : (s : Scope) (i : Statement WrittenName WrittenType) (types : BodyTypes) (old new : StatementLists)
    (flat : Stmt)
    (k : Statement ℕ Typed) → ListsGrow old new → IsFlatStatement new k flat → has_names s i ≡ true
    → types_written k ≡ [] → types_written i ≡ []
    → meant_by types.table.shapes types.regions.items k ≡ meant_in s i → IsPut s i types old new flat
put s i types old new flat k grows is known untyped unwritten meant = grind (arith, flat_of, none, and-true)
