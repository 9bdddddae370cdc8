-- Which types a statement or terminator requires to be equal when regions are erased, and how large
-- its types may be. Source: RFC 2094, "Subtyping" and "Reborrow constraints" (the types that are
-- related); the rest is project's choice, and docs/FORMATS.md says the same in prose.
use Rattle.std.specs.Prelude.{ℕ, Bool, true, ◌&&◌, List, ◌++◌, Option, Some, None, is_some}
use Rattle.std.specs.Prelude.{length, map, nat_lt}
use Rattle.std.specs.List.{list_all}
use Rattle.nll_types.specs.Types.{TypeTree, TypeTrees, none, more}
use Rattle.nll_types.specs.Structs.{Struct}
use Rattle.nll_types.specs.Places.{type_of, small_prefixes}
use Rattle.nll_types.specs.Rows.{shape_numbers}
use Rattle.nll_types.specs.Shapes.{is_small}
use Rattle.nll_types.specs.Table.{AreBelow}
use Rattle.nll_types.specs.Tables.{HaveShapes}
use Rattle.nll_types.specs.declared.node.Node.{Node}
use Rattle.nll_types.specs.declared.typed.Typed.{Typed}
pub use Rattle.nll_body.specs.Judging.{agree}
use Rattle.nll_body.specs.Judging.{IsJudged}
use Rattle.nll_body.specs.Statements.{Statement, make, map_statement, read, types_written}
use Rattle.nll_body.specs.Effects.{target_of, sources_of}
use Rattle.nll_body.specs.TypePairs.{parts_of_type, type_pairs}
use Rattle.nll_body.specs.Written.{variables_written}
use Rattle.nll_body.specs.declared.judgement.Judgement.{Judgement}
use Rattle.nll_body.specs.declared.places.Places.{Places}

-- ---- types that agree

-- each pair agrees
abbrev pub pairs_agree : List (Option TypeTree × Option TypeTree) → Bool
pairs_agree pairs = list_all (λ x. agree x.0 x.1) pairs

-- a place that is read, and of which nothing goes anywhere, has a type
abbrev pub is_read_typed : List Struct → List TypeTree → Statement ℕ TypeTree → Bool
is_read_typed structs variables (read p) = is_some (type_of structs variables p)
is_read_typed structs variables _ = true

-- Each place has a type, and the types that meet are equal when regions are erased.
abbrev pub types_agree : List Struct → List TypeTree → Statement ℕ TypeTree → Bool
types_agree structs variables i =
    pairs_agree (type_pairs structs variables i) && is_read_typed structs variables i

-- ---- types that are small

-- each type has no more nodes than a type may have
abbrev pub are_small : TypeTrees → Bool
are_small none = true
are_small (more t ts) = is_small t && are_small ts

-- each of the parts, where there are some, has no more nodes than a type may have
abbrev pub parts_are_small : Option TypeTrees → Bool
parts_are_small None = true
parts_are_small (Some ts) = are_small ts

-- the types of the parts that a statement makes
abbrev pub parts_made : List Struct → Statement ℕ TypeTree → Option TypeTrees
parts_made structs (make p t ops) = parts_of_type structs t
parts_made structs _ = None

-- Each type that is written, or is that of a place's prefix or of a part that is made, has at most
-- as many nodes as a type may have.
abbrev pub types_are_small : List Struct → List TypeTree → Statement ℕ TypeTree → Bool
types_are_small structs variables i =
    list_all is_small (types_written i)
    && list_all (small_prefixes structs variables) (target_of i ++ sources_of i)
    && parts_are_small (parts_made structs i)

-- ---- what is judged of a statement

-- each variable in the statement is declared
abbrev pub are_declared : Places → Statement ℕ Typed → Bool
are_declared ps i = list_all (λ x. nat_lt x (length ps.variables.now)) (variables_written i)

-- The shapes of the types that are written in the statement are in the table.
abbrev pub HasShapes : List Node → Statement ℕ Typed → Type 0
HasShapes ns i = AreBelow (length ns) (shape_numbers (types_written i))

-- Where the variables and the types that are written in the statement have these shapes, it says
-- whether the types in it agree and, where they do, whether none is too large.
abbrev pub IsJudgedIn : List Struct → List Node → Places → Statement ℕ Typed → Judgement → Type 0
IsJudgedIn structs ns ps i j = (types : List TypeTree) (f : ℕ → ℕ) (g : Typed → TypeTree)
    → HaveShapes ns (shape_numbers ps.variables.now) types
    → HaveShapes ns (shape_numbers (types_written i)) (map g (types_written i))
    → IsJudged (types_agree structs types (map_statement f g i))
    (types_are_small structs types (map_statement f g i)) j
