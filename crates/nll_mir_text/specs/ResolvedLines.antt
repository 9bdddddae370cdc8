-- What is taken for lines of variables, structs and points once their names are resolved.
-- Source: project's choice. Only private contracts cite this file.
use Rattle.std.specs.Prelude.{◌≡◌, ℕ, Bool, true}
use Rattle.std.specs.List.{list_all}
use Rattle.nll_types.specs.declared.typed.Typed.{Typed}
use Rattle.nll_mir_grammar.specs.WrittenTypes.{WrittenName, WrittenType}
use Rattle.nll_body.specs.Statements.{Statement, types_written}
use Rattle.nll_body.specs.declared.flat.Stmt.{Stmt}
use Rattle.nll_mir_text.specs.Naming.{has_arguments}
use Rattle.nll_mir_text.specs.Resolution.{IsResolved}
use Rattle.nll_mir_grammar.specs.MirForms.{at_point, variable}
use Rattle.nll_mir_text.specs.MirFaults.{is_in_order}
use Rattle.nll_mir_text.specs.MirReading.{IsReady, said_by, scope_in}
use Rattle.nll_mir_text.specs.ResolvedStatements.{IsFlatOf}
use Rattle.nll_mir_text.specs.declared.reader.Reader.{Reader}

-- The line of the written statement is in order, the number stands for it, and the flag says
-- whether the names in its types have the arguments that they take.
pub record IsPlaced (r : Reader) (i : Statement WrittenName WrittenType) (flat : Stmt)
    (fitting : Bool)
    : Type 0 where
  pub order : is_in_order (said_by r) (at_point i) ≡ true
  pub of : IsFlatOf (scope_in r.regions r.structs) i r.variables.types r.points.statements flat
  pub fits : fitting ≡ list_all (has_arguments (scope_in r.regions r.structs)) (types_written i)

-- The line of the variable and its written type is in order, the type by number is of it, and the
-- flag says whether the names in it have the arguments that they take.
pub record IsOfVariable (r : Reader) (x : ℕ) (t : WrittenType) (resolved : Typed) (fitting : Bool)
    : Type 0 where
  pub order : is_in_order (said_by r) (variable x t) ≡ true
  pub of : IsResolved (scope_in r.regions r.structs) t r.variables.types resolved
  pub fits : fitting ≡ has_arguments (scope_in r.regions r.structs) t

-- The reader says what it said, and its tables agree: types alone were added to them.
pub record IsGrown (old new : Reader) : Type 0 where
  pub said : said_by new ≡ said_by old
  pub ready : IsReady new
