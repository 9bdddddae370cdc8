-- What the parts of a search for drop regions add.
-- Source: project's choice.
use Rattle.std.specs.Prelude.{◌≡◌, ◌⊎◌, ℕ, suc, Bool, IsTrue, List, [], ◌∷◌, Contains, slice_get}
use Rattle.std.specs.Prelude.{Some}
use Rattle.nll_types.specs.Types.{TypeTrees, HasRegion}
use Rattle.nll_types.specs.Structs.{region_in, argument}
use Rattle.nll_types.specs.DropRegions.{MustHoldAtDrop}
use Rattle.nll_types.specs.declared.parameter.Parameter.{Parameter}
use Rattle.nll_types.specs.declared.source.Source.{Source}
use Rattle.nll_types.specs.declared.source.Source.TheVariants.{Region, AnyOf, DropOf}

-- r is what one of the regions becomes
abbrev pub IsPutRegion : List ℕ → List ℕ → TypeTrees → ℕ → Type 0
IsPutRegion qs rs ts r = (k : ℕ) × (q : ℕ) × (slice_get qs k ≡ Some q) × (region_in rs q ≡ r)

-- r is what a region of the sources becomes where qs are substituted and then rs
abbrev pub IsSourceRegion : List Source → List ℕ → List ℕ → TypeTrees → ℕ → Type 0
IsSourceRegion sources qs rs ts r =
    (k : ℕ) × (q : ℕ) × (slice_get sources k ≡ Some (Region q))
    × (region_in rs (region_in qs q) ≡ r)

-- r is the argument for a region parameter that isn't marked
abbrev pub IsKeptRegion : List Parameter → List ℕ → TypeTrees → ℕ → Type 0
IsKeptRegion parameters rs ts r = (k : ℕ) × MustHoldAtDrop parameters k × (region_in rs (suc k) ≡ r)

-- r is written in the argument for a type parameter that isn't marked
abbrev pub IsInKept : List Parameter → List ℕ → TypeTrees → ℕ → Type 0
IsInKept parameters rs ts r = (k : ℕ) × MustHoldAtDrop parameters k × HasRegion (argument ts k) r

-- the regions of argument k of a struct with these sources are required
abbrev pub WantsWritten : List Source → Bool → Bool → ℕ → Type 0
WantsWritten sources written dropped k =
    IsTrue written ⊎ (IsTrue dropped × Contains sources (AnyOf k))

-- the drop regions of argument k of a struct with these sources are required
abbrev pub WantsDropped : List Source → Bool → ℕ → Type 0
WantsDropped sources dropped k = IsTrue dropped × Contains sources (DropOf k)

-- the regions among sources, in their order
abbrev pub regions_among : List Source → List ℕ
regions_among [] = []
regions_among (Region q ∷ sources) = q ∷ regions_among sources
regions_among (AnyOf k ∷ sources) = regions_among sources
regions_among (DropOf k ∷ sources) = regions_among sources
