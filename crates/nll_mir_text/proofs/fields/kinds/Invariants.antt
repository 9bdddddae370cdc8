use Rattle.std.proofs.Common.{◌≡◌, ◌++◌, map, drop}
use Rattle.nll_mir_grammar.specs.Lines.{parameter_of}
use Rattle.nll_mir_text.specs.StructLines.{is_region_parameter}
use Rattle.nll_mir_text.proofs.fields.kinds.Given as goal

abbrev pub invariant-loop-parameter : goal.invariant-loop-parameter
invariant-loop-parameter l =
    l.kinds.items ++ map is_region_parameter (map parameter_of (drop l.parameter-index l.parameters))
    ≡ map is_region_parameter (map parameter_of l.parameters)
