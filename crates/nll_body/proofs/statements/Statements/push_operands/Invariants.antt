use Rattle.std.proofs.Common.{◌≡◌, ◌++◌, drop}
use Rattle.nll_sets.specs.Prefix.{IsPrefix}
use Rattle.nll_body.specs.Flat.{operand_in}
use Rattle.nll_body.proofs.EffectLemmas.{variables_of}
use Rattle.nll_body.proofs.statements.Statements.push_operands.Given as goal

abbrev pub invariant-loop-operand : goal.invariant-loop-operand
invariant-loop-operand l =
    (l.used.items ++ variables_of (operand_in l.self) (drop l.operand-index l.operands)
    ≡ l.fn.used.items ++ variables_of (operand_in l.self) l.operands)
    × IsPrefix l.fn.used.items l.used.items
