use Rattle.std.proofs.Common.{◌++◌, ℕ, List}
use Rattle.std.specs.Prelude.{IsTrue}
use Rattle.nll_types.specs.Types.{type_at}
use Rattle.nll_types.specs.Structs.{Struct, AreWellFormed}
use Rattle.nll_types.specs.Views.{trees}
use Rattle.nll_types.specs.Declarations.{structs_of}
use Rattle.nll_types.specs.Sources.{AddsSources, IsWantedOf}
use Rattle.nll_types.specs.Collecting.{WantsWritten, WantsDropped}
use Rattle.nll_types.proofs.DropLemmas.{IsWantedBelow}
use Rattle.nll_types.proofs.drop_search.+drop_search.Given as goal

abbrev pub invariant-collect_parts-loop-part : goal.invariant-collect_parts-loop-part
invariant-collect_parts-loop-part l = (later : List Struct) (regions parameters : ℕ)
    → AreWellFormed (structs_of l.structs) regions parameters (trees l.parts)
    → AddsSources (structs_of l.structs ++ later)
    (IsWantedBelow (type_at (trees l.parts))
    (λ k t. IsWantedOf (structs_of l.structs ++ later) (IsTrue l.written) (IsTrue l.dropped) t) l.part-index)
    l.fn.out.keys l.out.keys

abbrev pub invariant-collect_arguments-loop-place : goal.invariant-collect_arguments-loop-place
invariant-collect_arguments-loop-place l = (later : List Struct) (regions parameters : ℕ)
    → AreWellFormed (structs_of l.structs) regions parameters (trees l.arguments)
    → AddsSources (structs_of l.structs ++ later)
    (IsWantedBelow (type_at (trees l.arguments))
    (λ k t. IsWantedOf (structs_of l.structs ++ later) (WantsWritten l.sources.keys l.written l.dropped k)
    (WantsDropped l.sources.keys l.dropped k) t) l.place) l.fn.out.keys l.out.keys
