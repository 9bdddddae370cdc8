use Rattle.std.proofs.Common.{◌≡◌, ◌++◌, drop}
use Rattle.nll_mir_text.specs.Resolving.{regions_in}
use Rattle.nll_mir_text.proofs.type_resolution.push_regions.Given as goal

abbrev pub invariant-loop-argument : goal.invariant-loop-argument
invariant-loop-argument l =
    l.regions.items ++ regions_in (drop l.argument-index l.arguments)
    ≡ l.fn.regions.items ++ regions_in l.arguments
