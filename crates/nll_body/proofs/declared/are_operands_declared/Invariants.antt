use Rattle.std.proofs.Common.{◌≡◌, length, map}
use Rattle.std.specs.List.{flat_map}
use Rattle.nll_types.specs.Operands.{place_in}
use Rattle.nll_body.specs.Judging.{have_variables, operand_at}
use Rattle.nll_body.proofs.OperandLemmas.{left_declared}
use Rattle.nll_body.proofs.declared.are_operands_declared.Given as goal

abbrev pub invariant-loop-operand : goal.invariant-loop-operand
invariant-loop-operand l =
    left_declared (operand_at l.places) (length l.places.variables.now) l.operands l.operand-index
    ≡ have_variables (length l.places.variables.now) (flat_map place_in (map (operand_at l.places) l.operands))
