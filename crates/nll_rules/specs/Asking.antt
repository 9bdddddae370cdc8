-- What a statement or terminator asks of regions. Source: RFC 2094, "Subtyping" and "Reborrow
-- constraints"; the table is project's choice, and docs/FORMATS.md says the same in prose.
use Rattle.std.specs.Prelude.{◌≡◌, ◌⊎◌, ℕ, List, Contains, Some}
use Rattle.nll_types.specs.Types.{TypeTree}
use Rattle.nll_types.specs.Structs.{Struct}
use Rattle.nll_body.specs.Statements.{Statement, borrow, call}
use Rattle.nll_body.specs.TypePairs.{type_pairs}
use Rattle.nll_rules.specs.Subtyping.{SubtypeAsks}
use Rattle.nll_rules.specs.Reborrows.{RestsOn}

-- the first type must be a subtype of the second: they meet in the statement
abbrev pub AsksSubtype : List Struct → List TypeTree → Statement ℕ TypeTree → TypeTree → TypeTree
    → Type 0
AsksSubtype structs variables i t u = Contains (type_pairs structs variables i) (Some t, Some u)

-- It asks the pair by itself: each region on which a reborrow rests must outlive the borrow's, and
-- a call has pairs of its own.
abbrev pub AsksPair : List Struct → List TypeTree → Statement ℕ TypeTree → ℕ × ℕ → Type 0
AsksPair structs variables (borrow p r m q) x = RestsOn structs variables q x.0 × (x.1 ≡ r)
AsksPair structs variables (call p args result wheres b unwind) x = Contains wheres x
AsksPair structs variables _ x = ⊥

-- it asks the pair, by a subtyping or by itself
abbrev pub AsksInAll : List Struct → List TypeTree → Statement ℕ TypeTree → ℕ × ℕ → Type 0
AsksInAll structs variables i x =
    ((t u : TypeTree) × AsksSubtype structs variables i t u × SubtypeAsks structs t u x)
    ⊎ AsksPair structs variables i x
