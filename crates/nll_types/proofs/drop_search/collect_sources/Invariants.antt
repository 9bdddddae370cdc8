use Rattle.std.proofs.Common.{◌≡◌, ℕ, List}
use Rattle.std.specs.Prelude.{slice_get}
use Rattle.nll_types.specs.Structs.{Struct, region_in}
use Rattle.nll_types.specs.Sources.{AddsSources}
use Rattle.nll_types.specs.declared.source.Source.TheVariants.{Region}
use Rattle.nll_types.proofs.DropLemmas.{IsWantedBelow}
use Rattle.nll_types.proofs.drop_search.collect_sources.Given as goal

abbrev pub invariant-loop-source : goal.invariant-loop-source
invariant-loop-source l = (all : List Struct)
    → AddsSources all (IsWantedBelow (slice_get l.sources)
    (λ k source rs ts r. (q : ℕ) × (source ≡ Region q) × (region_in rs (region_in l.regions q) ≡ r)) l.source-index)
    l.fn.out.keys l.out.keys
