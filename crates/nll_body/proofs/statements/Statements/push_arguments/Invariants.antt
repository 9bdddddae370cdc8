use Rattle.std.proofs.Common.{◌≡◌, ◌++◌, drop}
use Rattle.nll_sets.specs.Prefix.{IsPrefix}
use Rattle.nll_body.specs.Flat.{operand_in}
use Rattle.nll_body.proofs.EffectLemmas.{variables_of}
use Rattle.nll_body.proofs.statements.Statements.push_arguments.Given as goal

abbrev pub invariant-loop-argument : goal.invariant-loop-argument
invariant-loop-argument l =
    (l.used.items ++ variables_of (λ a. operand_in l.self a.0) (drop l.argument-index l.arguments)
    ≡ l.fn.used.items ++ variables_of (λ a. operand_in l.self a.0) l.arguments)
    × IsPrefix l.fn.used.items l.used.items
