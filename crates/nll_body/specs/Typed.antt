-- Bodies with their types by number.
-- Source: project's choice.
use Rattle.std.specs.Prelude.{◌≡◌, ℕ, List, All, map}
use Rattle.nll_types.specs.Declarations.{structs_of}
use Rattle.nll_types.specs.Rows.{HasRow, tree_at}
use Rattle.nll_types.specs.Types.{TypeTree}
use Rattle.nll_types.specs.declared.body_types.BodyTypes.{BodyTypes}
use Rattle.nll_types.specs.declared.typed.Typed.{Typed}
use Rattle.nll_body.specs.Flat.{statement_in, statements_in}
use Rattle.nll_body.specs.Meant.{HasRows, meant_by}
use Rattle.nll_body.specs.Statements.{Statement}
use Rattle.nll_body.specs.Bodies.{BodyText}
use Rattle.nll_body.specs.declared.typed.StatementAt.{StatementAt}
use Rattle.nll_body.specs.declared.typed.TypedBody.{TypedBody}

-- what a statement means, with these types
abbrev pub meant_statement : BodyTypes → Statement ℕ Typed → Statement ℕ TypeTree
meant_statement types i = meant_by types.table.shapes types.regions.items i

-- what a statement means that comes with its lists and its types
abbrev pub meant_at : StatementAt → Statement ℕ TypeTree
meant_at l = meant_statement l.types.now (statement_in l.statements.now l.statement.now)

-- what the types mean
abbrev pub trees_at : BodyTypes → List Typed → List TypeTree
trees_at types vs = map (tree_at types.table.shapes types.regions.items) vs

-- Each type of a variable, and each that is written in a statement, has its row.
pub record HaveRows (types : BodyTypes) (vs : List Typed) (is : List (Statement ℕ Typed))
    : Type 0 where
  pub variables : All (HasRow types.table.shapes types.regions.items) vs
  pub points : All (HasRows types.table.shapes types.regions.items) is

-- The types, the variables and the statements are those of the body.
pub record IsTypedBody (body : BodyText) (t : TypedBody) : Type 0 where
  pub structs : structs_of t.types.now.table.structs ≡ body.structs
  pub variables : trees_at t.types.now t.variables.now ≡ body.variables
  pub points : map (meant_statement t.types.now) (statements_in t.points.now) ≡ body.points
  pub rows : HaveRows t.types.now t.variables.now (statements_in t.points.now)
