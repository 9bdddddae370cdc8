use Rattle.std.proofs.Common.{◌≡◌, List}
use Rattle.std.specs.Prelude.{slice_get}
use Rattle.nll_types.specs.Structs.{Struct, region_in}
use Rattle.nll_types.specs.Sources.{AddsSources}
use Rattle.nll_types.proofs.DropLemmas.{IsWantedBelow}
use Rattle.nll_types.proofs.drop_search.collect_regions.Given as goal

abbrev pub invariant-loop-region : goal.invariant-loop-region
invariant-loop-region l = (all : List Struct)
    → AddsSources all (IsWantedBelow (slice_get l.regions) (λ k q rs ts r. region_in rs q ≡ r) l.region-index)
    l.fn.out.keys l.out.keys
