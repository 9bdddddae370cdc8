-- Where the drop regions of a struct come from, computed once for each struct and for all uses of
-- it. Source: project's choice; that summaries are right follows from the definition of drop
-- regions.
use Rattle.std.specs.Prelude.{◌≡◌, ◌⊎◌, ◌↔◌, ◌++◌, ℕ, List, length, Contains, Some}
use Rattle.nll_types.specs.Types.{TypeTree, TypeTrees, named, HasRegion, type_at}
use Rattle.nll_types.specs.Structs.{Struct, struct_at, region_in, argument, put_in}
use Rattle.nll_types.specs.DropRegions.{IsDropRegion}
use Rattle.nll_types.specs.declared.source.Source.{Source}
use Rattle.nll_types.specs.declared.source.Source.TheVariants.{Region, AnyOf, DropOf}

-- what the source yields with these region arguments and type arguments substituted: what the
-- region becomes, any region that is written in the argument, or any drop region of the argument
abbrev pub Yields : List Struct → List ℕ → TypeTrees → Source → ℕ → Type 0
Yields structs rs ts (Region q) r = region_in rs q ≡ r
Yields structs rs ts (AnyOf k) r = HasRegion (argument ts k) r
Yields structs rs ts (DropOf k) r = IsDropRegion structs (argument ts k) r

-- one of the sources yields the region
abbrev pub OneYields : List Struct → List ℕ → TypeTrees → List Source → ℕ → Type 0
OneYields structs rs ts sources r =
    (source : Source) × Contains sources source × Yields structs rs ts source r

-- The sources yield the drop regions of each use of the struct, and no other region, whatever is
-- declared after these structs.
pub record AreSourcesOf (structs : List Struct) (s : ℕ) (sources : List Source) : Type 0 where
  pub each : (later : List Struct) (rs : List ℕ) (ts : TypeTrees) (r : ℕ)
      → length rs ≡ length (struct_at structs s).regions
      → IsDropRegion (structs ++ later) (named s rs ts) r
      ↔ OneYields (structs ++ later) rs ts sources r

-- Required of a type: each region that is written in it if one fact holds, each of its drop regions
-- if the other does.
abbrev pub IsWanted : List Struct → Type 0 → Type 0 → TypeTree → ℕ → Type 0
IsWanted structs written dropped t r =
    (written × HasRegion t r) ⊎ (dropped × IsDropRegion structs t r)

-- r is required of the type with these arguments substituted
abbrev pub IsWantedOf : List Struct → Type 0 → Type 0 → TypeTree → List ℕ → TypeTrees → ℕ → Type 0
IsWantedOf structs written dropped t rs ts r = IsWanted structs written dropped (put_in rs ts t) r

-- r is required of one of the types, by facts on its place in the row
abbrev pub IsWantedOfOne : List Struct → (ℕ → Type 0) → (ℕ → Type 0) → TypeTrees → List ℕ
    → TypeTrees → ℕ → Type 0
IsWantedOfOne structs written dropped us rs ts r =
    (k : ℕ) × (u : TypeTree) × (type_at us k ≡ Some u)
    × IsWantedOf structs (written k) (dropped k) u rs ts r

-- The list has got sources of exactly these regions.
pub record AddsSources (structs : List Struct) (wanted : List ℕ → TypeTrees → ℕ → Type 0)
    (old new : List Source) : Type 0 where
  pub each : (rs : List ℕ) (ts : TypeTrees) (r : ℕ)
      → OneYields structs rs ts new r ↔ (OneYields structs rs ts old r ⊎ wanted rs ts r)
