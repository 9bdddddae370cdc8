-- The statements of a body, with their types as trees.
-- Source: project's choice.
use Rattle.std.specs.Prelude.{ℕ, List, All}
use Rattle.nll_types.specs.Types.{TypeTree}
use Rattle.nll_types.specs.Rows.{HasRow, tree_at}
use Rattle.nll_types.specs.declared.node.Node.{Node}
use Rattle.nll_types.specs.declared.typed.Typed.{Typed}
use Rattle.nll_body.specs.Statements.{Statement, map_statement, types_written}

-- what a statement means whose types have these shapes and rows of these regions
abbrev pub meant_by : List Node → List ℕ → Statement ℕ Typed → Statement ℕ TypeTree
meant_by ns regions i = map_statement (λ r. r) (tree_at ns regions) i

-- each type that is written in the statement has its row
abbrev pub HasRows : List Node → List ℕ → Statement ℕ Typed → Type 0
HasRows ns regions i = All (HasRow ns regions) (types_written i)
