-- Types by their shapes and rows of regions, while a statement is looked at.
-- Source: project's choice. Only private contracts cite this file.
use Rattle.std.specs.Prelude.{◌≡◌, ℕ, ◌+◌, ◌-◌, ◌<◌, nat_lt, if◌then◌else◌, List, [], ◌∷◌}
use Rattle.std.specs.Prelude.{length, map, take, drop, Option, Some, None, slice_get}
use Rattle.std.specs.Prelude.{slice_index_or}
use Rattle.nll_types.specs.Types.{TypeTree, TypeTrees, int, parameter, reference, tuple, named}
use Rattle.nll_types.specs.Types.{function}
use Rattle.nll_types.specs.Structs.{Struct, argument, region_in}
use Rattle.nll_types.specs.Rows.{region_row}
use Rattle.nll_types.specs.Shapes.{Shape, ShapeList, int_shape, parameter_shape, reference_shape}
use Rattle.nll_types.specs.Shapes.{tuple_shape, named_shape, function_shape, no_shape, more_shapes}
use Rattle.nll_types.specs.Shapes.{shape_of}
use Rattle.nll_types.specs.Table.{shape_in}
use Rattle.nll_types.specs.declared.node.Node.{Node}
use Rattle.nll_types.specs.declared.parameter.Sign.TheVariants.{Covariant}
use Rattle.nll_rules.specs.Signs.{row_signs_of}
use Rattle.nll_rules.specs.declared.field_rows.UseRow.{UseRow}
use Rattle.nll_rules.specs.declared.row_signs.ShapeSigns.{ShapeSigns}
use Rattle.nll_rules.specs.declared.type_row.RowLists.{RowLists}
use Rattle.nll_rules.specs.declared.type_row.TypeRow.{TypeRow}

-- ---- shapes

abbrev mutual
  -- how many regions the row of a type of this shape has
  pub row_length : Shape → ℕ
  row_length int_shape = 0
  row_length (parameter_shape k) = 0
  row_length (reference_shape m t) = row_length t + 1
  row_length (tuple_shape ts) = rows_length ts
  row_length (named_shape s n ts) = rows_length ts + n
  row_length (function_shape ts t) = rows_length ts + row_length t

  -- how many those of types of these shapes have together
  pub rows_length : ShapeList → ℕ
  rows_length no_shape = 0
  rows_length (more_shapes t ts) = row_length t + rows_length ts

-- the parts of a shape whose rows stand first in its row, one after another
abbrev pub first_parts : Shape → ShapeList
first_parts (tuple_shape ts) = ts
first_parts (named_shape s n ts) = ts
first_parts (function_shape ts t) = ts
first_parts _ = no_shape

-- where the rows of these begin, one after another from this place on, and where the last ends
abbrev pub starts_from : ℕ → ShapeList → List ℕ
starts_from n no_shape = n ∷ []
starts_from n (more_shapes t ts) = n ∷ starts_from (n + row_length t) ts

-- The signs are those of the shape's row, and the places those where the rows of its first parts
-- begin.
pub record AreSignsOf (structs : List Struct) (s : Shape) (e : ShapeSigns) : Type 0 where
  pub signs : e.signs.items ≡ row_signs_of structs Covariant s
  pub starts : e.starts.items ≡ starts_from 0 (first_parts s)

-- what is known of the shapes of these numbers, as far as something is known, is right
abbrev pub AreSigns : List Struct → List Node → List (Option ShapeSigns) → Type 0
AreSigns structs ns known = (k : ℕ) (e : ShapeSigns) → slice_get known k ≡ Some (Some e)
    → (k < length ns) × AreSignsOf structs (shape_in ns k) e

-- the signs of the shape are known
abbrev pub AreKnown : List (Option ShapeSigns) → ℕ → Type 0
AreKnown known k = (e : ShapeSigns) × (slice_get known k ≡ Some (Some e))

-- ---- the row of a struct with its arguments

-- the row of the argument for a type parameter, from where it begins to where the next one begins,
-- and none where there is no such argument
abbrev pub argument_row : UseRow → List ℕ → ℕ → List ℕ
argument_row u row k =
    drop (slice_index_or u.starts.now k 0) (take (slice_index_or u.starts.now (k + 1) 0) row)

-- the region arguments
abbrev pub own_row : UseRow → List ℕ → List ℕ
own_row u row = drop u.regions row

-- The row is that of a use of a struct with these region arguments and type arguments.
pub record IsUseRow (u : UseRow) (row rs : List ℕ) (ts : TypeTrees) : Type 0 where
  pub counted : length row ≡ u.count
  pub regions : own_row u row ≡ rs
  pub types : (k : ℕ) → argument_row u row k ≡ region_row (argument ts k)

-- the row that a template makes of a struct's row: 0 stands for 'static, and k + 1 for the region
-- at the place k of the struct's row
abbrev pub row_from : List ℕ → List ℕ → List ℕ
row_from row template = map (region_in row) template

-- ---- a type at hand

-- the form of a type: types of different forms ask nothing of each other
abbrev pub form : TypeTree → ℕ
form int = 0
form (parameter k) = 1
form (reference r m t) = 2
form (tuple ts) = 3
form (named s rs ts) = 4
form (function ts t) = 5

-- the row: from its first place on, as many regions as it has; the places of the made rows' list go
-- on where those of the body's list end
abbrev pub row_in : List ℕ → List ℕ → TypeRow → List ℕ
row_in body made c = take c.count
    (if nat_lt c.first (length body) then drop c.first body
    else drop (c.first - length body) made)

-- the row, in the lists as the code keeps them
abbrev pub row_in_lists : RowLists → TypeRow → List ℕ
row_in_lists lists c = row_in lists.body.now lists.made.items c

-- the lists have as many regions of the row as it has
abbrev pub IsWholeRow : List ℕ → TypeRow → Type 0
IsWholeRow row c = length row ≡ c.count

-- The shape and the row are those of the type.
pub record IsRowOf (ns : List Node) (body made : List ℕ) (t : TypeTree) (c : TypeRow) : Type 0
  where
    pub within : c.shape < length ns
    pub shape : shape_in ns c.shape ≡ shape_of t
    pub row : row_in body made c ≡ region_row t
    pub whole : IsWholeRow (row_in body made c) c

-- those of the type where there is one, and else none
abbrev pub IsRowIn : List Node → List ℕ → List ℕ → Option TypeTree → Option TypeRow → Type 0
IsRowIn ns body made None o = o ≡ None
IsRowIn ns body made (Some t) None = ⊥
IsRowIn ns body made (Some t) (Some c) = IsRowOf ns body made t c
