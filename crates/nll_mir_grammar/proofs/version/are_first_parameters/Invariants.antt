use Rattle.std.proofs.Common.{◌≡◌, map, drop}
use Rattle.std.specs.List.{list_all}
use Rattle.nll_mir_grammar.specs.Lines.{parameter_of}
use Rattle.nll_mir_grammar.specs.Versions.{is_first_parameter}
use Rattle.nll_mir_grammar.proofs.version.are_first_parameters.Given as goal

abbrev pub invariant-loop-parameter : goal.invariant-loop-parameter
invariant-loop-parameter l =
    list_all is_first_parameter (map parameter_of (drop l.parameter-index l.parameters))
    ≡ list_all is_first_parameter (map parameter_of l.parameters)
