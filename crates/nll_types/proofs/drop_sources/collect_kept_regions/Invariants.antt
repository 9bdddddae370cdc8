use Rattle.std.proofs.Common.{◌≡◌, suc, List}
use Rattle.std.specs.Prelude.{slice_get}
use Rattle.nll_types.specs.Structs.{Struct, region_in}
use Rattle.nll_types.specs.DropRegions.{MustHoldAtDrop}
use Rattle.nll_types.specs.Sources.{AddsSources}
use Rattle.nll_types.proofs.DropLemmas.{IsWantedBelow}
use Rattle.nll_types.proofs.drop_sources.collect_kept_regions.Given as goal

abbrev pub invariant-loop-place : goal.invariant-loop-place
invariant-loop-place l = (all : List Struct)
    → AddsSources all (IsWantedBelow (slice_get l.parameters)
    (λ k p rs ts r. MustHoldAtDrop l.parameters k × (region_in rs (suc k) ≡ r)) l.place) l.fn.out.keys l.out.keys
