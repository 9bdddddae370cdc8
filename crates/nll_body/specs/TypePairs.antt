-- The types that meet in a statement or terminator: of what goes somewhere, and of where it goes.
-- Source: RFC 2094, "Subtyping" and "Reborrow constraints" (the types that are related); the table
-- is project's choice, and docs/FORMATS.md says the same in prose.
use Rattle.std.specs.Prelude.{ℕ, List, [], ◌∷◌, ◌++◌, Option, Some, None, map}
use Rattle.nll_types.specs.Types.{TypeTree, TypeTrees, int, tuple, named, none, more}
use Rattle.nll_types.specs.Structs.{Struct, struct_at, put_in_all}
use Rattle.nll_types.specs.Places.{type_of}
pub use Rattle.nll_types.specs.Operands.{reference_to}
use Rattle.nll_types.specs.Operands.{Operand, operand_type}
use Rattle.nll_body.specs.Statements.{Statement, assign, borrow, make, switch, call}

-- the types of operands over variables of these types
abbrev pub operand_types : List Struct → List TypeTree → List Operand → List (Option TypeTree)
operand_types structs variables ops = map (operand_type structs variables) ops

-- the types of the parts of a tuple, or of the fields of a struct with its arguments substituted
abbrev pub parts_of_type : List Struct → TypeTree → Option TypeTrees
parts_of_type structs (tuple ts) = Some ts
parts_of_type structs (named n rs ts) = Some (put_in_all rs ts (struct_at structs n).fields)
parts_of_type structs _ = None

-- the types of operands, each paired with that of the part at its place; a missing operand or part
-- is `None`
abbrev pub beside : List (Option TypeTree) → TypeTrees → List (Option TypeTree × Option TypeTree)
beside [] none = []
beside [] (more t ts) = (None, Some t) ∷ beside [] ts
beside (o ∷ os) none = (o, None) ∷ beside os none
beside (o ∷ os) (more t ts) = (o, Some t) ∷ beside os ts

-- like `beside`, but the type may have no parts: then each of its pairs is empty
abbrev pub beside_parts : List (Option TypeTree) → Option TypeTrees
    → List (Option TypeTree × Option TypeTree)
beside_parts os None = (None, None) ∷ []
beside_parts os (Some ts) = beside os ts

-- The types that meet, pair by pair: that of what goes somewhere, and that of where it goes; none
-- stands for one that isn't there. An operand goes to the place, part or parameter for which it is,
-- or is switched on and must be an `int`. A reference to the borrowed place, and what is made or
-- returned, goes to the place that is written.
abbrev pub type_pairs : List Struct → List TypeTree → Statement ℕ TypeTree
    → List (Option TypeTree × Option TypeTree)
type_pairs structs variables (assign p op) =
    (operand_type structs variables op, type_of structs variables p) ∷ []
type_pairs structs variables (borrow p r m q) =
    (reference_to r m (type_of structs variables q), type_of structs variables p) ∷ []
type_pairs structs variables (make p t ops) =
    beside_parts (operand_types structs variables ops) (parts_of_type structs t)
    ++ (Some t, type_of structs variables p) ∷ []
type_pairs structs variables (switch op bs) = (operand_type structs variables op, Some int) ∷ []
type_pairs structs variables (call p args t wheres b unwind) =
    map (λ a. (operand_type structs variables a.0, Some a.1)) args
    ++ (Some t, type_of structs variables p) ∷ []
type_pairs structs variables _ = []
