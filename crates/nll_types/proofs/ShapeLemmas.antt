-- Shapes of types with arguments put in, and behind projections.
use Rattle.std.proofs.Common.{◌≡◌, ℕ, zero, suc, ◌+◌, List, length, map, refl, ap, ◌∙◌, Option, Some, None}
use Rattle.std.specs.Prelude.{option_map}
use Rattle.std.proofs.lemmas.List.{length-map}
use Rattle.nll_types.specs.Types.{TypeTree, TypeTrees, int, parameter, reference, tuple, named, function, none, more, type_at, nodes, nodes_of_all}
use Rattle.nll_types.specs.Structs.{Struct, struct_at, region_in, argument, put_in, put_in_all}
use Rattle.nll_types.specs.Places.{behind}
use Rattle.nll_types.specs.Shapes.{tuple_shape, reference_shape, shape_of, shapes_of, shape_at, shape_nodes, shape_nodes_of_all, argument_shape, put_in_shape, put_in_shapes, behind_shape}
use Rattle.nll_types.specs.declared.place.Projection.{Projection}
use Rattle.nll_types.specs.declared.place.Projection.TheVariants.{Deref, Field}

mutual
  -- a type has as many nodes as its shape
  pub same_nodes : (t : TypeTree) → nodes t ≡ shape_nodes (shape_of t)
  same_nodes int = refl
  same_nodes (parameter k) = refl
  same_nodes (reference r m t) = ap (λ (n : ℕ). n + 1) (same_nodes t)
  same_nodes (tuple ts) = ap (λ (n : ℕ). n + 1) (same_nodes_of_all ts)
  same_nodes (named s rs ts) = ap (λ (n : ℕ). n + 1) (same_nodes_of_all ts)
  same_nodes (function ts t) = (let a = same_nodes_of_all ts in let b = same_nodes t in cc)

  same_nodes_of_all : (ts : TypeTrees) → nodes_of_all ts ≡ shape_nodes_of_all (shapes_of ts)
  same_nodes_of_all none = refl
  same_nodes_of_all (more t ts) = (let a = same_nodes t in let b = same_nodes_of_all ts in cc)

argument_shape_of : (ts : TypeTrees) (k : ℕ) → shape_of (argument ts k) ≡ argument_shape (shapes_of ts) k
argument_shape_of none k = refl
argument_shape_of (more t ts) zero = refl
argument_shape_of (more t ts) (suc k) = argument_shape_of ts k

mutual
  -- arguments put into a type are their shapes put into its shape
  pub shape_of_put_in : (rs : List ℕ) (ts : TypeTrees) (t : TypeTree)
      → shape_of (put_in rs ts t) ≡ put_in_shape (shapes_of ts) (shape_of t)
  shape_of_put_in rs ts int = refl
  shape_of_put_in rs ts (parameter k) = argument_shape_of ts k
  shape_of_put_in rs ts (reference r m t) = ap (reference_shape m) (shape_of_put_in rs ts t)
  shape_of_put_in rs ts (tuple us) = ap tuple_shape (shapes_of_put_in rs ts us)
  shape_of_put_in rs ts (named s qs us) =
      (let l : length (map (region_in rs) qs) ≡ length qs = length-map qs (region_in rs) in
      let i = shapes_of_put_in rs ts us in cc)
  shape_of_put_in rs ts (function us u) = (let a = shapes_of_put_in rs ts us in let b = shape_of_put_in rs ts u in cc)

  pub shapes_of_put_in : (rs : List ℕ) (ts us : TypeTrees)
      → shapes_of (put_in_all rs ts us) ≡ put_in_shapes (shapes_of ts) (shapes_of us)
  shapes_of_put_in rs ts none = refl
  shapes_of_put_in rs ts (more u us) = (let a = shape_of_put_in rs ts u in let b = shapes_of_put_in rs ts us in cc)

-- the shape at a place of the row
pub shape_at_of : (ts : TypeTrees) (k : ℕ) → option_map shape_of (type_at ts k) ≡ shape_at (shapes_of ts) k
shape_at_of none k = refl
shape_at_of (more t ts) zero = refl
shape_at_of (more t ts) (suc k) = shape_at_of ts k

field_shape : (rs : List ℕ) (ts : TypeTrees) (o : Option TypeTree)
    → option_map shape_of (option_map (put_in rs ts) o)
    ≡ option_map (put_in_shape (shapes_of ts)) (option_map shape_of o)
field_shape rs ts None = refl
field_shape rs ts (Some t) = ap Some (shape_of_put_in rs ts t)

-- the shape behind a projection is that of the type behind it
pub behind_agrees : (structs : List Struct) (p : Projection) (t : TypeTree)
    → option_map shape_of (behind structs p t) ≡ behind_shape structs p (shape_of t)
behind_agrees structs Deref int = refl
behind_agrees structs Deref (parameter k) = refl
behind_agrees structs Deref (reference r m t) = refl
behind_agrees structs Deref (tuple ts) = refl
behind_agrees structs Deref (named s rs ts) = refl
behind_agrees structs Deref (function ts t) = refl
behind_agrees structs (Field k) int = refl
behind_agrees structs (Field k) (parameter j) = refl
behind_agrees structs (Field k) (reference r m t) = refl
behind_agrees structs (Field k) (tuple ts) = shape_at_of ts k
behind_agrees structs (Field k) (function ts t) = refl
behind_agrees structs (Field k) (named s rs ts) =
    field_shape rs ts (type_at (struct_at structs s).fields k)
    ∙ ap (option_map (put_in_shape (shapes_of ts))) (shape_at_of (struct_at structs s).fields k)
