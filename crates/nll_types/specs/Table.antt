-- Shapes as numbers: a table of nodes whose parts are earlier nodes.
-- Source: project's choice.
use Rattle.std.specs.Prelude.{◌≡◌, ℕ, ◌<◌, ◌≤◌, List, [], ◌∷◌, ◌++◌, length, slice_index_or}
use Rattle.std.specs.Prelude.{slice_index, min, sum_by, ◌+◌}
use Rattle.nll_problem.specs.Limits.{most_nodes}
use Rattle.nll_types.specs.Shapes.{Shape, ShapeList, int_shape, parameter_shape, reference_shape}
use Rattle.nll_types.specs.Shapes.{tuple_shape, named_shape, function_shape}
use Rattle.nll_types.specs.Shapes.{no_shape, more_shapes, shape_nodes}
use Rattle.nll_types.specs.declared.node.Node.{Node}
use Rattle.nll_types.specs.declared.node.Node.TheVariants as nodes

-- the shape of a number
abbrev pub at : List Shape → ℕ → Shape
at known i = slice_index_or known i int_shape

-- the shapes of numbers
abbrev pub all_at : List Shape → List ℕ → ShapeList
all_at known [] = no_shape
all_at known (i ∷ is) = more_shapes (at known i) (all_at known is)

-- the shape of a node, where these are the shapes of the numbers before it
abbrev pub shape_over : List Shape → Node → Shape
shape_over known nodes.Int = int_shape
shape_over known (nodes.Parameter i) = parameter_shape i
shape_over known (nodes.Reference m t) = reference_shape m (at known t)
shape_over known (nodes.Tuple ts) = tuple_shape (all_at known ts.items)
shape_over known (nodes.Named s n ts) = named_shape s n (all_at known ts.items)
shape_over known (nodes.Function ts t) = function_shape (all_at known ts.items) (at known t)

-- these shapes, and then those of the nodes
abbrev pub shapes_from : List Shape → List Node → List Shape
shapes_from known [] = known
shapes_from known (n ∷ ns) = shapes_from (known ++ shape_over known n ∷ []) ns

-- the shapes of the nodes of a table, each over those before it
abbrev pub shapes_in : List Node → List Shape
shapes_in ns = shapes_from [] ns

-- the shape that a number has in a table
abbrev pub shape_in : List Node → ℕ → Shape
shape_in ns i = at (shapes_in ns) i

-- the numbers of a node's parts
abbrev pub parts_of : Node → List ℕ
parts_of nodes.Int = []
parts_of (nodes.Parameter i) = []
parts_of (nodes.Reference m t) = t ∷ []
parts_of (nodes.Tuple ts) = ts.items
parts_of (nodes.Named s n ts) = ts.items
parts_of (nodes.Function ts t) = t ∷ ts.items

-- each part of the node has a number below this
abbrev pub IsOver : ℕ → Node → Type 0
IsOver n node = (k : ℕ) → k < length (parts_of node) → slice_index (parts_of node) k < n

-- Each number of the old table has its shape in the new one too.
pub record Extends (old new : List Node) : Type 0 where
  pub longer : length old ≤ length new
  pub kept : (i : ℕ) → i < length old → shape_in new i ≡ shape_in old i

-- the parts of each node come before it
abbrev pub IsTable : List Node → Type 0
IsTable ns = (i : ℕ) → i < length ns → IsOver i (slice_index_or ns i nodes.Int)

-- each shape has one number
abbrev pub HasOneNumber : List Node → Type 0
HasOneNumber ns = (i j : ℕ) → i < length ns → j < length ns → shape_in ns i ≡ shape_in ns j → i ≡ j

-- The parts of each node come before it, each shape has one number, and with each goes the number
-- of its nodes, counted up to one more than a type may have.
pub record IsShapeTable (ns : List Node) (sizes : List ℕ) : Type 0 where
  pub table : IsTable ns
  pub one : HasOneNumber ns
  pub counted : length sizes ≡ length ns
  pub measured : (i : ℕ) → i < length ns
      → slice_index sizes i ≡ min (most_nodes + 1) (shape_nodes (shape_in ns i))

-- how many nodes the shape of a node has over parts of these sizes, counted up to one more than a
-- type may have
abbrev pub size_over : List ℕ → Node → ℕ
size_over counts nodes.Int = 1
size_over counts (nodes.Parameter i) = 1
size_over counts (nodes.Reference m t) =
    min (most_nodes + 1) (min (most_nodes + 1) (slice_index counts t) + 1)
size_over counts (nodes.Tuple ts) =
    min (most_nodes + 1) (sum_by (λ p. slice_index counts p) ts.items + 1)
size_over counts (nodes.Named s n ts) =
    min (most_nodes + 1) (sum_by (λ p. slice_index counts p) ts.items + 1)
size_over counts (nodes.Function ts t) =
    min (most_nodes + 1)
    (min (most_nodes + 1) (slice_index counts t)
    + min (most_nodes + 1) (sum_by (λ p. slice_index counts p) ts.items + 1))

-- the numbers are below this
abbrev pub AreBelow : ℕ → List ℕ → Type 0
AreBelow n is = (k : ℕ) → k < length is → slice_index is k < n
