-- Types with their regions erased: two types may replace each other where they have one shape.
-- Source: RFC 2094, "Subtyping" (it relates types that differ in their regions alone); the forms
-- are project's choice.
use Rattle.std.specs.Prelude.{ℕ, zero, suc, ◌+◌, Bool, false, true, ◌==◌, ◌&&◌, nat_le, List}
use Rattle.std.specs.Prelude.{length, Option, Some, None, option_map}
use Rattle.std.specs.Bool.{beq}
use Rattle.nll_problem.specs.Limits.{most_nodes}
use Rattle.nll_types.specs.Types.{TypeTree, TypeTrees, int, parameter, reference, tuple, named}
use Rattle.nll_types.specs.Types.{function, none, more, nodes}
use Rattle.nll_types.specs.Structs.{Struct, struct_at}
use Rattle.nll_types.specs.declared.place.Projection.{Projection}
use Rattle.nll_types.specs.declared.place.Projection.TheVariants.{Deref, Field}

mutual
  -- A shape is a type without its regions; of a struct it keeps how many regions it has.
  pub data Shape : Type 0 where
    int_shape : Shape
    parameter_shape : ℕ → Shape
    reference_shape : Bool → Shape → Shape
    tuple_shape : ShapeList → Shape
    named_shape : ℕ → ℕ → ShapeList → Shape
    function_shape : ShapeList → Shape → Shape

  -- shapes in a row
  pub data ShapeList : Type 0 where
    no_shape : ShapeList
    more_shapes : Shape → ShapeList → ShapeList

-- The shape of a type. Of a struct's region arguments it keeps the number.
abbrev mutual
  pub shape_of : TypeTree → Shape
  shape_of int = int_shape
  shape_of (parameter k) = parameter_shape k
  shape_of (reference r m t) = reference_shape m (shape_of t)
  shape_of (tuple ts) = tuple_shape (shapes_of ts)
  shape_of (named s rs ts) = named_shape s (length rs) (shapes_of ts)
  shape_of (function ts t) = function_shape (shapes_of ts) (shape_of t)

  pub shapes_of : TypeTrees → ShapeList
  shapes_of none = no_shape
  shapes_of (more t ts) = more_shapes (shape_of t) (shapes_of ts)

-- the shape at this place of the row
abbrev pub shape_at : ShapeList → ℕ → Option Shape
shape_at no_shape k = None
shape_at (more_shapes t ts) zero = Some t
shape_at (more_shapes t ts) (suc k) = shape_at ts k

-- How many nodes a shape has: as many as each type of this shape.
abbrev mutual
  pub shape_nodes : Shape → ℕ
  shape_nodes int_shape = 1
  shape_nodes (parameter_shape k) = 1
  shape_nodes (reference_shape m t) = shape_nodes t + 1
  shape_nodes (tuple_shape ts) = shape_nodes_of_all ts + 1
  shape_nodes (named_shape s n ts) = shape_nodes_of_all ts + 1
  shape_nodes (function_shape ts t) = shape_nodes_of_all ts + shape_nodes t + 1

  pub shape_nodes_of_all : ShapeList → ℕ
  shape_nodes_of_all no_shape = 0
  shape_nodes_of_all (more_shapes t ts) = shape_nodes t + shape_nodes_of_all ts

-- the argument for a type parameter
abbrev pub argument_shape : ShapeList → ℕ → Shape
argument_shape no_shape k = int_shape
argument_shape (more_shapes t ts) zero = t
argument_shape (more_shapes t ts) (suc k) = argument_shape ts k

-- A field's shape with the shapes of the type arguments substituted for the parameters.
abbrev mutual
  pub put_in_shape : ShapeList → Shape → Shape
  put_in_shape types int_shape = int_shape
  put_in_shape types (parameter_shape k) = argument_shape types k
  put_in_shape types (reference_shape m t) = reference_shape m (put_in_shape types t)
  put_in_shape types (tuple_shape ts) = tuple_shape (put_in_shapes types ts)
  put_in_shape types (named_shape s n ts) = named_shape s n (put_in_shapes types ts)
  put_in_shape types (function_shape ts t) =
      function_shape (put_in_shapes types ts) (put_in_shape types t)

  pub put_in_shapes : ShapeList → ShapeList → ShapeList
  put_in_shapes types no_shape = no_shape
  put_in_shapes types (more_shapes t ts) =
      more_shapes (put_in_shape types t) (put_in_shapes types ts)

-- the shape behind one projection
abbrev pub behind_shape : List Struct → Projection → Shape → Option Shape
behind_shape structs Deref (reference_shape m t) = Some t
behind_shape structs Deref _ = None
behind_shape structs (Field k) (tuple_shape ts) = shape_at ts k
behind_shape structs (Field k) (named_shape s n ts) =
    option_map (put_in_shape ts) (shape_at (shapes_of (struct_at structs s).fields) k)
behind_shape structs (Field k) _ = None

-- whether two types have one shape: they are the same once regions are erased
abbrev mutual
  pub same_shape : TypeTree → TypeTree → Bool
  same_shape int int = true
  same_shape (parameter j) (parameter k) = j == k
  same_shape (reference q m t) (reference r n u) = beq m n && same_shape t u
  same_shape (tuple ts) (tuple us) = same_shapes ts us
  same_shape (named s qs ts) (named n rs us) =
      (s == n) && ((length qs == length rs) && same_shapes ts us)
  same_shape (function ts t) (function us u) = same_shapes ts us && same_shape t u
  same_shape _ _ = false

  pub same_shapes : TypeTrees → TypeTrees → Bool
  same_shapes none none = true
  same_shapes (more t ts) (more u us) = same_shape t u && same_shapes ts us
  same_shapes _ _ = false

-- whether a type has no more nodes than a type may have
abbrev pub is_small : TypeTree → Bool
is_small t = nat_le (nodes t) most_nodes

-- whether a shape has no more nodes than a type may have
abbrev pub is_small_shape : Shape → Bool
is_small_shape s = nat_le (shape_nodes s) most_nodes
