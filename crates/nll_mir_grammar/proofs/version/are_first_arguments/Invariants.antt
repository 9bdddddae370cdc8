use Rattle.std.proofs.Common.{◌≡◌, map, drop}
use Rattle.std.specs.Prelude.{not}
use Rattle.std.specs.List.{list_all}
use Rattle.nll_mir_grammar.specs.Functions.{has_function}
use Rattle.nll_mir_grammar.specs.TypeTexts.{written}
use Rattle.nll_mir_grammar.proofs.version.are_first_arguments.Given as goal

abbrev pub invariant-loop-argument : goal.invariant-loop-argument
invariant-loop-argument l =
    list_all (λ t. not (has_function t)) (map (λ a. written a.1) (drop l.argument-index l.arguments))
    ≡ list_all (λ t. not (has_function t)) (map (λ a. written a.1) l.arguments)
