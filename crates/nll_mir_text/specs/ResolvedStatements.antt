-- What is judged of the statements of a body.
-- Source: project's choice. Only private contracts cite this file.
use Rattle.std.specs.Prelude.{◌≡◌, ℕ, ◌<◌, ◌^◌, Bool, true, false, ◌&&◌, List, map, All}
use Rattle.std.specs.Prelude.{⊤, Option, MatchOption}
use Rattle.std.specs.List.{list_all}
use Rattle.std.specs.Borrow.{Bor}
use Rattle.nll_format.specs.Names.{number_of}
use Rattle.nll_types.specs.Types.{TypeTree}
use Rattle.nll_types.specs.Operands.{Operand, operand_of}
use Rattle.nll_types.specs.Rows.{HasRow, tree_at}
use Rattle.nll_types.specs.declared.body_types.BodyTypes.{BodyTypes}
use Rattle.nll_types.specs.declared.operand.Operand.{Operand as KeptOperand}
use Rattle.nll_types.specs.declared.typed.Typed.{Typed}
use Rattle.nll_mir_grammar.specs.WrittenTypes.{WrittenName, WrittenType}
use Rattle.nll_mir_grammar.specs.TypeTexts.{written}
use Rattle.nll_mir_grammar.specs.declared.type_text.TypePiece.{TypePiece}
use Rattle.nll_body.specs.Statements.{Statement, is_terminator, types_written}
use Rattle.nll_body.specs.Exits.{edges_from}
use Rattle.nll_body.specs.Written.{regions_written}
use Rattle.nll_body.specs.Meant.{HasRows, meant_by}
use Rattle.nll_body.specs.Typing.{types_are_small}
use Rattle.nll_body.specs.Flat.{StatementLists, statement_in}
use Rattle.nll_body.specs.Within.{IsStatementIn}
use Rattle.nll_body.specs.declared.exits.Exits.{Exits}
use Rattle.nll_body.specs.declared.flat.Stmt.{Stmt}
use Rattle.nll_body.specs.declared.judgement.Judgement.{Judgement}
use Rattle.nll_mir_text.specs.Naming.{Scope, is_name_among, is_known, has_arguments, meant}
pub use Rattle.nll_mir_text.specs.MirSaid.{meant_in}
use Rattle.nll_mir_text.specs.MirSaid.{Said}
use Rattle.nll_mir_text.specs.MirSteps.{statement_meant}
use Rattle.nll_mir_text.specs.MirFaults.{knows, shapes_fit}

-- each name in the statement is declared: those of regions outside types, and those in types
abbrev pub has_names : Scope → Statement WrittenName WrittenType → Bool
has_names s i =
    list_all (is_name_among s.regions) (regions_written i) && list_all (is_known s)
    (types_written i)

-- The names in the written statement are declared, and the statement over numbers is what it means:
-- each type that is written in it has its row.
pub record IsOfStatement (s : Scope) (i : Statement WrittenName WrittenType) (types : BodyTypes)
    (r : Statement ℕ Typed) : Type 0 where
  pub known : has_names s i ≡ true
  pub rows : HasRows types.table.shapes types.regions.items r
  pub meant : meant_by types.table.shapes types.regions.items r ≡ meant_in s i

-- The number stands for something in the lists, and for what the written statement means.
pub record IsFlatOf (s : Scope) (i : Statement WrittenName WrittenType) (types : BodyTypes)
    (lists : StatementLists) (flat : Stmt) : Type 0 where
  pub within : IsStatementIn lists flat
  pub of : IsOfStatement s i types (statement_in lists flat)

-- what is made of a written statement: nothing where a name isn't declared
abbrev pub MadeOf : Scope → Statement WrittenName WrittenType → BodyTypes → StatementLists
    → Option Stmt
    → Type 0
MadeOf s i types lists o = MatchOption o (has_names s i ≡ false) (IsFlatOf s i types lists)

-- the flag is what it was, and where a statement is made each name in the types that are written
-- has the arguments that it takes
abbrev pub FitOf : Scope → Statement WrittenName WrittenType → Bool → Bool → Option Stmt → Type 0
FitOf s i old new o =
    MatchOption o ⊤ (λ _. new ≡ (old && list_all (has_arguments s) (types_written i)))

-- an argument of a call as it is meant, where names mean this
abbrev pub argument_meant : Scope → KeptOperand × List TypePiece → Operand × TypeTree
argument_meant s a = (operand_of a.0, meant s (written a.1))

-- an argument of a call over numbers
abbrev pub argument_resolved : BodyTypes → Operand × Typed → Operand × TypeTree
argument_resolved types a = (a.0, tree_at types.table.shapes types.regions.items a.1)

-- The names in the types of arguments are declared, and the arguments over numbers are what these
-- mean.
pub record AreOfArguments (s : Scope) (texts : List (KeptOperand × List TypePiece))
    (types : BodyTypes) (args : List (Operand × Typed)) : Type 0 where
  pub known : list_all (λ a. is_known s (written a.1)) texts ≡ true
  pub rows : All (HasRow types.table.shapes types.regions.items) (map (λ a. a.1) args)
  pub meant : map (argument_resolved types) args ≡ map (argument_meant s) texts

-- the numbers of a bound's two regions
abbrev pub bound_numbers : List WrittenName → Bor (List ℕ) × Bor (List ℕ) → ℕ × ℕ
bound_numbers names w = (number_of names w.0.now, number_of names w.1.now)

-- both names of a bound are among these
abbrev pub is_bound : List WrittenName → Bor (List ℕ) × Bor (List ℕ) → Bool
is_bound names w = is_name_among names w.0.now && is_name_among names w.1.now

-- It says whether each name and variable in the statement is declared, whether its types fit, and,
-- where they do, whether none is too large.
pub record IsOfPoint (s : Said) (i : Statement WrittenName WrittenType)
    (j : Judgement) : Type 0 where
  pub known : j.declared ≡ knows s i
  pub fits : j.fits ≡ shapes_fit s i
  pub fits_small : j.fits ≡ true
      → j.small ≡ types_are_small s.structs s.variables (statement_meant s i)

-- It says whether the block ends with the statement, and how many edges leave the point where it
-- is.
pub record AreExits {R T : Type 0} (e : Exits) (i : Statement R T) : Type 0 where
  pub ends : e.ends ≡ is_terminator i
  pub edges : e.edges ≡ edges_from i
  pub few : e.edges < 2 ^ 63
