use Rattle.std.proofs.Common.{◌≡◌, drop}
use Rattle.nll_types.specs.Declarations.{structs_of}
use Rattle.nll_types.specs.Places.{behind_all}
use Rattle.nll_types.specs.Views.{tree}
use Rattle.nll_types.proofs.place_types.behind.Given as goal

abbrev pub invariant-loop-projection : goal.invariant-loop-projection
invariant-loop-projection l = behind_all (structs_of l.structs) l.projections (tree l.fn.ty)
    ≡ behind_all (structs_of l.structs) (drop l.projection-index l.projections) (tree l.current)
