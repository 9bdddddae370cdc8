use Rattle.nll_types.specs.Declarations.{structs_of}
use Rattle.nll_tests.proofs.KeepingLemmas.{AreGoodBelow}
use Rattle.nll_tests.proofs.well_formed.+well_formed.Given as goal

abbrev pub invariant-are_well_formed-loop-ty : goal.invariant-are_well_formed-loop-ty
invariant-are_well_formed-loop-ty l = AreGoodBelow (structs_of l.structs) l.regions l.parameters l.types l.ty-index
