-- What is known of the types of a body. Source: project's choice. Only private contracts cite this
-- file.
use Rattle.std.specs.Prelude.{◌≡◌, ◌<◌, ◌++◌, ◌↔◌, ℕ, true, List, length, map, All, Contains}
use Rattle.std.specs.Prelude.{Option, Some, None}
use Rattle.std.specs.Global.{Vec}
use Rattle.nll_types.specs.Types.{TypeTree, TypeTrees, named}
use Rattle.nll_types.specs.Rows.{region_row}
use Rattle.nll_types.specs.Shapes.{shape_of}
use Rattle.nll_types.specs.Structs.{Struct, field_type}
use Rattle.nll_types.specs.Table.{Extends, shape_in}
use Rattle.nll_types.specs.declared.node.Node.{Node}
use Rattle.nll_types.specs.declared.parameter.Sign.TheVariants.{Covariant}
use Rattle.nll_body.specs.Flat.{StatementLists, statements_in}
use Rattle.nll_body.specs.Meant.{HasRows, meant_by}
use Rattle.nll_body.specs.Typing.{types_agree}
use Rattle.nll_body.specs.Bodies.{BodyText}
use Rattle.nll_rules.specs.Signs.{RowsAsk, row_signs_of}
use Rattle.nll_rules.specs.TypeRows.{IsRowIn, IsRowOf, IsWholeRow, row_from, row_in}
use Rattle.nll_rules.specs.declared.fields.FieldKey.{FieldKey}
use Rattle.nll_rules.specs.declared.fields.FieldRow.{FieldRow}
use Rattle.nll_rules.specs.declared.fields.FieldUse.{FieldUse}
use Rattle.nll_rules.specs.declared.meetings.Meeting.{Meeting}
use Rattle.nll_rules.specs.declared.type_row.TypeRow.{TypeRow}

-- The structs that are declared, the shapes and the regions of the body's types, its statements
-- over them, the types of the variables, the shapes with those that lie behind projections, and the
-- regions of rows that were made.
pub record KnownTypes : Type 0 where
  pub structs : List Struct
  pub shapes : List Node
  pub regions : List ℕ
  pub lists : StatementLists
  pub variables : List TypeTree
  pub table : List Node
  pub made : List ℕ

-- What is known of the body is the same.
pub record IsSameBody (old new : KnownTypes) : Type 0 where
  pub structs : new.structs ≡ old.structs
  pub shapes : new.shapes ≡ old.shapes
  pub regions : new.regions ≡ old.regions
  pub lists : new.lists ≡ old.lists
  pub variables : new.variables ≡ old.variables

-- What is known of the body is the same, each number of a shape still has that shape, and each row
-- is where it was.
pub record Learns (old new : KnownTypes) : Type 0 where
  pub structs : new.structs ≡ old.structs
  pub shapes : new.shapes ≡ old.shapes
  pub regions : new.regions ≡ old.regions
  pub lists : new.lists ≡ old.lists
  pub variables : new.variables ≡ old.variables
  pub table : Extends old.table new.table
  pub made : (more : List ℕ) × (new.made ≡ old.made ++ more)

-- the shape and the row are those of the type
abbrev pub IsTypeOfRow : KnownTypes → TypeTree → TypeRow → Type 0
IsTypeOfRow k t c = IsRowOf k.table k.regions k.made t c

-- the type is at hand where there is one
abbrev pub IsAtHand : KnownTypes → Option TypeTree → Option TypeRow → Type 0
IsAtHand k o c = IsRowIn k.table k.regions k.made o c

-- the row of a type at hand
abbrev pub known_row : KnownTypes → TypeRow → List ℕ
known_row k c = row_in k.regions k.made c

-- The shape and the row are there.
pub record IsAvailable (k : KnownTypes) (c : TypeRow) : Type 0 where
  pub within : c.shape < length k.table
  pub whole : IsWholeRow (known_row k c) c

-- The field of the first type has the second type: that type's shape, and a template that makes its
-- row of the row of the first type.
pub record IsFieldOf (ns : List Node) (t u : TypeTree) (f : FieldRow) : Type 0 where
  pub within : f.shape < length ns
  pub shape : shape_in ns f.shape ≡ shape_of u
  pub row : row_from (region_row t) f.template.items ≡ region_row u

-- the field of the first type has the second type where there is one, and else there is no field
abbrev pub IsFieldIn : List Node → TypeTree → Option TypeTree → Option FieldRow → Type 0
IsFieldIn ns t None o = o ≡ None
IsFieldIn ns t (Some u) None = ⊥
IsFieldIn ns t (Some u) (Some f) = IsFieldOf ns t u f

-- what is known of a field is right, whatever regions a struct of its shape has
abbrev pub IsRightField : List Struct → List Node → FieldKey → FieldRow → Type 0
IsRightField structs ns x f = (x.shape < length ns)
    × ((s : ℕ) (rs : List ℕ) (ts : TypeTrees) → shape_of (named s rs ts) ≡ shape_in ns x.shape
    → IsFieldIn ns (named s rs ts) (field_type structs s rs ts x.place) (Some f))

-- What is known of each field is right.
pub record AreFields (structs : List Struct) (ns : List Node) (fields : List (FieldKey × FieldRow))
    : Type 0 where
  pub each : (x : FieldKey) (f : FieldRow) → Contains fields (x, f) → IsRightField structs ns x f

-- what is known of a use of a struct, with the same shape and row, is of the field
abbrev pub IsAmongUses : List (FieldUse × TypeRow) → FieldUse → TypeRow → Type 0
IsAmongUses uses x c = (y : FieldUse) × Contains uses (y, c)
    × (y.shape ≡ x.shape) × (y.place ≡ x.place) × (y.row.items ≡ x.row.items)

-- The type is that of the field at this place of each struct that has this shape and this row.
abbrev pub IsUsedField : List Struct → List Node → List ℕ → List ℕ → ℕ → ℕ → List ℕ
    → Option TypeRow → Type 0
IsUsedField structs ns body made shape place row o = (s : ℕ) (rs : List ℕ) (ts : TypeTrees)
    → shape_of (named s rs ts) ≡ shape_in ns shape → region_row (named s rs ts) ≡ row
    → IsRowIn ns body made (field_type structs s rs ts place) o

-- What is known of each use of a field is right.
pub record AreUses (structs : List Struct) (ns : List Node) (body made : List ℕ)
    (uses : List (FieldUse × TypeRow)) : Type 0 where
  pub each : (x : FieldUse) (c : TypeRow) → Contains uses (x, c) → (x.shape < length ns)
      × IsUsedField structs ns body made x.shape x.place x.row.items (Some c)

-- the rows of two types, of which the first flows into the second, ask the pair by the signs of the
-- second's shape
abbrev pub MeetingAsks : List Struct → List Node → List ℕ → List ℕ → Meeting → ℕ × ℕ → Type 0
MeetingAsks structs ns body made m x =
    RowsAsk (row_signs_of structs Covariant (shape_in ns m.other.shape))
    (row_in body made m.one) (row_in body made m.other) x

-- The pairs are those that the rows of two types ask, which are there.
pub record IsRightMeeting (structs : List Struct) (ns : List Node) (body made : List ℕ)
    (m : Meeting) (pairs : List (ℕ × ℕ)) : Type 0 where
  pub within : m.other.shape < length ns
  pub one : IsWholeRow (row_in body made m.one) m.one
  pub other : IsWholeRow (row_in body made m.other) m.other
  pub asks : (x : ℕ × ℕ) → Contains pairs x ↔ MeetingAsks structs ns body made m x

-- What is known of each meeting is right.
pub record AreMet (structs : List Struct) (ns : List Node) (body made : List ℕ)
    (asked : List (Meeting × Vec (ℕ × ℕ))) : Type 0 where
  pub each : (m : Meeting) (v : Vec (ℕ × ℕ)) → Contains asked (m, v)
      → IsRightMeeting structs ns body made m v.items

-- in the words of what is known: the type is that of the field, where there is one
abbrev pub IsFieldOfUse : KnownTypes → KnownTypes → ℕ → ℕ → List ℕ → Option TypeRow → Type 0
IsFieldOfUse old new shape place row o = (s : ℕ) (rs : List ℕ) (ts : TypeTrees)
    → shape_of (named s rs ts) ≡ shape_in old.table shape → region_row (named s rs ts) ≡ row
    → IsAtHand new (field_type old.structs s rs ts place) o

-- and the two types ask the pair
abbrev pub AsksAt : KnownTypes → Meeting → ℕ × ℕ → Type 0
AsksAt k m x = MeetingAsks k.structs k.table k.regions k.made m x

-- What is known is of the body: its structs, the types of its variables, and its statements, in
-- which each type has its row and the types agree.
pub record IsOfBody (body : BodyText) (k : KnownTypes) : Type 0 where
  pub structs : k.structs ≡ body.structs
  pub variables : k.variables ≡ body.variables
  pub points : map (meant_by k.shapes k.regions) (statements_in k.lists) ≡ body.points
  pub rows : All (HasRows k.shapes k.regions) (statements_in k.lists)
  pub agree : All (λ i. types_agree k.structs k.variables (meant_by k.shapes k.regions i) ≡ true)
      (statements_in k.lists)
