-- Types as shapes and rows of regions: a type is its shape filled with its row.
-- Source: project's choice.
use Rattle.std.specs.Prelude.{◌≡◌, ◌<◌, ◌≤◌, ℕ, zero, suc, ◌+◌, List, [], ◌∷◌, ◌++◌, map, take, drop}
use Rattle.std.specs.Prelude.{length, slice_index_or}
use Rattle.nll_sets.specs.Prefix.{IsPrefix}
use Rattle.nll_types.specs.Types.{TypeTree, TypeTrees, int, parameter, reference, tuple, named}
use Rattle.nll_types.specs.Types.{function, none, more}
use Rattle.nll_types.specs.Shapes.{Shape, ShapeList, int_shape, parameter_shape, reference_shape}
use Rattle.nll_types.specs.Shapes.{tuple_shape, named_shape, function_shape, no_shape, more_shapes}
use Rattle.nll_types.specs.Shapes.{shape_of}
use Rattle.nll_types.specs.Table.{shape_in}
use Rattle.nll_types.specs.declared.node.Node.{Node}
use Rattle.nll_types.specs.declared.typed.Typed.{Typed}

abbrev mutual
  -- The regions of a type in a row: those of its parts, one part after another, and then its own.
  pub region_row : TypeTree → List ℕ
  region_row int = []
  region_row (parameter k) = []
  region_row (reference r m t) = region_row t ++ r ∷ []
  region_row (tuple ts) = region_rows ts
  region_row (named s rs ts) = region_rows ts ++ rs
  region_row (function ts t) = region_rows ts ++ region_row t

  -- the regions of types, one type after another
  pub region_rows : TypeTrees → List ℕ
  region_rows none = []
  region_rows (more t ts) = region_row t ++ region_rows ts

-- how many regions the rows of the first types have
abbrev pub rows_before : TypeTrees → ℕ → ℕ
rows_before ts zero = 0
rows_before none (suc k) = 0
rows_before (more t ts) (suc k) = length (region_row t) + rows_before ts k

abbrev mutual
  -- The type of this shape whose regions are the first of these, in the order of a row; and the
  -- regions that are left. Where they are too few, 'static stands for a reference's region.
  pub filled : Shape → List ℕ → TypeTree × List ℕ
  filled int_shape rs = (int, rs)
  filled (parameter_shape k) rs = (parameter k, rs)
  filled (reference_shape m t) rs =
      let p = filled t rs in (reference (slice_index_or p.1 0 0) m p.0, drop 1 p.1)
  filled (tuple_shape ts) rs = let p = all_filled ts rs in (tuple p.0, p.1)
  filled (named_shape s n ts) rs =
      let p = all_filled ts rs in (named s (take n p.1) p.0, drop n p.1)
  filled (function_shape ts t) rs =
      let p = all_filled ts rs in let q = filled t p.1 in (function p.0 q.0, q.1)

  -- the types of these shapes, one after another
  pub all_filled : ShapeList → List ℕ → TypeTrees × List ℕ
  all_filled no_shape rs = (none, rs)
  all_filled (more_shapes t ts) rs =
      let p = filled t rs in let q = all_filled ts p.1 in (more p.0 q.0, q.1)

-- the type of the number of a shape and of the place in a list where its row of regions begins
abbrev pub tree_at : List Node → List ℕ → Typed → TypeTree
tree_at ns regions v = (filled (shape_in ns v.shape) (drop v.first regions)).0

-- The shape and the row are those of the type.
pub record IsTyped (ns : List Node) (regions : List ℕ) (v : Typed) (t : TypeTree) : Type 0 where
  pub within : v.shape < length ns
  pub begun : v.first ≤ length regions
  pub shape : shape_in ns v.shape ≡ shape_of t
  pub row : IsPrefix (region_row t) (drop v.first regions)

-- the shape is one of these, and the row is in the list
abbrev pub HasRow : List Node → List ℕ → Typed → Type 0
HasRow ns regions v = IsTyped ns regions v (tree_at ns regions v)

-- the numbers of the shapes of types
abbrev pub shape_numbers : List Typed → List ℕ
shape_numbers vs = map (λ v. v.shape) vs
