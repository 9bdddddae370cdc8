-- Places, and their types.
-- Source: RFC 2094, "Reborrow constraints" (places and dereferences); the forms are project's
-- choice.
use Rattle.std.specs.Prelude.{ℕ, Bool, true, ◌&&◌, List, [], ◌∷◌}
use Rattle.std.specs.Prelude.{Option, Some, None, slice_get, option_map, option_and_then, unwrap_or}
use Rattle.nll_types.specs.Types.{TypeTree, reference, tuple, named, type_at, type_count}
use Rattle.nll_types.specs.Structs.{Struct, struct_at, field_type}
use Rattle.nll_types.specs.Shapes.{is_small}
use Rattle.nll_types.specs.declared.place.Place.{Place}
use Rattle.nll_types.specs.declared.place.Place.TheVariants.{Whole, Part, Parts}
use Rattle.nll_types.specs.declared.place.Projection.{Projection}
use Rattle.nll_types.specs.declared.place.Projection.TheVariants.{Deref, Field}

-- A place: a variable, and what is taken of it, one projection after another.
pub record PlacePath : Type 0 where
  pub variable : ℕ
  pub projections : List Projection

-- the type behind one projection: what a reference points to, or the part or field of this number
abbrev pub behind : List Struct → Projection → TypeTree → Option TypeTree
behind structs Deref (reference r m t) = Some t
behind structs Deref _ = None
behind structs (Field k) (tuple ts) = type_at ts k
behind structs (Field k) (named s rs ts) = field_type structs s rs ts k
behind structs (Field k) _ = None

-- the type behind projections, one after another
abbrev pub behind_all : List Struct → List Projection → TypeTree → Option TypeTree
behind_all structs [] t = Some t
behind_all structs (p ∷ ps) t = option_and_then (behind_all structs ps) (behind structs p t)

-- the type of a place over variables of these types, where it has one
abbrev pub type_of : List Struct → List TypeTree → PlacePath → Option TypeTree
type_of structs variables p =
    option_and_then (behind_all structs p.projections) (slice_get variables p.variable)

-- how many parts a tuple has, or how many fields a struct; other types have neither
abbrev pub part_count : List Struct → TypeTree → Option ℕ
part_count structs (tuple ts) = Some (type_count ts)
part_count structs (named s rs ts) = Some (type_count (struct_at structs s).fields)
part_count structs _ = None

-- whether the type is small and so is each type behind the first projections, as far as there are
-- such types
abbrev pub small_behind : List Struct → List Projection → TypeTree → Bool
small_behind structs [] t = is_small t
small_behind structs (p ∷ ps) t =
    is_small t && unwrap_or (option_map (small_behind structs ps) (behind structs p t)) true

-- whether the types of all prefixes of a place are small, as far as they have types: that of the
-- variable, the type behind the first projection, and so on, up to that of the place
abbrev pub small_prefixes : List Struct → List TypeTree → PlacePath → Bool
small_prefixes structs variables p =
    unwrap_or (option_map (small_behind structs p.projections) (slice_get variables p.variable))
    true

-- a place of the code as a path
abbrev pub path_of : Place → PlacePath
path_of (Whole x) = record { variable = x; projections = [] }
path_of (Part x p) = record { variable = x; projections = p ∷ [] }
path_of (Parts x b) = record { variable = x; projections = b.value.items }
