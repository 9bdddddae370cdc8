-- Shapes behind projections, by the nodes of a table.
use Rattle.std.proofs.Common.{◌≡◌, ℕ, zero, suc, ◌+◌, List, [], ◌∷◌, length, refl, sym, ap, ◌∙◌, arith, Option, Some, None}
use Rattle.std.specs.Prelude.{option_map, slice_get}
use Rattle.std.specs.Global.{Vec}
use Rattle.nll_types.specs.Types.{TypeTree, TypeTrees, int, parameter, reference, tuple, named, function, none, more, type_count}
use Rattle.nll_types.specs.Structs.{Struct, struct_at}
use Rattle.nll_types.specs.Places.{part_count}
use Rattle.nll_types.specs.Shapes.{Shape, ShapeList, tuple_shape, named_shape, no_shape, more_shapes, shape_of, shapes_of, shape_at}
use Rattle.nll_types.specs.Table.{at, all_at, shape_over}
use Rattle.nll_types.specs.declared.node.Node.{Node}
use Rattle.nll_types.specs.declared.node.Node.TheVariants as nodes

-- the shape at a place of shapes of numbers
pub shape_at_all : (known : List Shape) (is : List ℕ) (k : ℕ)
    → option_map (at known) (slice_get is k) ≡ shape_at (all_at known is) k
shape_at_all known [] k = refl
shape_at_all known (i ∷ is) zero = refl
shape_at_all known (i ∷ is) (suc k) = shape_at_all known is k

-- ---- how many parts or fields

-- how many shapes stand in the row
abbrev row_length : ShapeList → ℕ
row_length no_shape = 0
row_length (more_shapes t ts) = row_length ts + 1

-- how many parts a tuple has, or how many fields a struct
abbrev shape_part_count : List Struct → Shape → Option ℕ
shape_part_count structs (tuple_shape ts) = Some (row_length ts)
shape_part_count structs (named_shape s n ts) = Some (type_count (struct_at structs s).fields)
shape_part_count structs _ = None

count_of_row : (ts : TypeTrees) → type_count ts ≡ row_length (shapes_of ts)
count_of_row none = refl
count_of_row (more t ts) = ap (λ (n : ℕ). n + 1) (count_of_row ts)

length_of_row : (known : List Shape) (is : List ℕ) → row_length (all_at known is) ≡ length is
length_of_row known [] = refl
length_of_row known (i ∷ is) = (let e = length_of_row known is in omega arith)

part_count_agrees : (structs : List Struct) (t : TypeTree)
    → part_count structs t ≡ shape_part_count structs (shape_of t)
part_count_agrees structs int = refl
part_count_agrees structs (parameter k) = refl
part_count_agrees structs (reference r m t) = refl
part_count_agrees structs (tuple ts) = ap Some (count_of_row ts)
part_count_agrees structs (named s rs ts) = refl
part_count_agrees structs (function ts t) = refl

-- the parts of a node are counted
pub count_at : (structs : List Struct) (known : List Shape) (node : Node) (t : TypeTree)
    → shape_of t ≡ shape_over known node
    → part_count structs t ≡ shape_part_count structs (shape_over known node)
count_at structs known node t e = part_count_agrees structs t ∙ ap (shape_part_count structs) e

pub count_tuple : (structs : List Struct) (known : List Shape) (ts : Vec ℕ) (t : TypeTree)
    → shape_of t ≡ shape_over known (nodes.Tuple ts)
    → Some (length ts.items) ≡ part_count structs t
count_tuple structs known ts t e =
    sym (count_at structs known (nodes.Tuple ts) t e ∙ ap Some (length_of_row known ts.items))
