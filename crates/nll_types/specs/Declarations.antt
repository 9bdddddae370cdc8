-- What is kept of a struct's declaration.
-- Source: project's choice.
use Rattle.std.specs.Prelude.{◌<◌, ◌≡◌, ℕ, List, [], map, length, slice_index_or}
use Rattle.nll_types.specs.Structs.{Struct, AreInOrder}
use Rattle.nll_types.specs.Sources.{AreSourcesOf}
use Rattle.nll_types.specs.declared.source.Source.{Source}
use Rattle.nll_types.specs.Views.{trees}
use Rattle.nll_types.specs.declared.structs.Declaration.{Declaration}

-- the struct that a declaration says
abbrev pub declared : Declaration → Struct
declared d = record {
  regions = d.regions.items;
  types = d.types.items;
  has_drop = d.has_drop;
  fields = trees d.fields.items;
}

-- the structs that declarations say, in their order
abbrev pub structs_of : List Declaration → List Struct
structs_of ds = map declared ds

-- The structs are declared in order, and the sources of each one's drop regions are kept.
pub record AreKept (ds : List Declaration) (sources : List (List Source)) : Type 0 where
  pub counted : length sources ≡ length ds
  pub in_order : AreInOrder (structs_of ds)
  pub known : (s : ℕ) → s < length ds → AreSourcesOf (structs_of ds) s (slice_index_or sources s [])
