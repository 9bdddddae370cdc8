use Rattle.std.proofs.Common.{length, true, sym}
use Rattle.std.proofs.lemmas.List.{get_or_default}
use Rattle.nll_body.specs.Judging.{operand_at}
use Rattle.nll_body.proofs.OperandLemmas.{declared_all, declared_more}
use Rattle.nll_body.proofs.declared.are_operands_declared.Goals as goal

pub loop-operand-preserved : goal.loop-operand-preserved
loop-operand-preserved c =
    let inside = c.loop-operand-test.true in
    declared_more (operand_at c.args.places.now) (length c.args.places.now.variables.now) c.args.operands.now
    c.loop-operand.operand-index _ true c.is_operand_declared.result true _ inside
    (get_or_default c.args.operands.now c.loop-operand.operand-index _ _ inside) c.loop-operand.invariant
    c.is_operand_declared.ensures (sym c.if-not-is_operand_declared.false)

pub returns-then-not-is_operand_declared : goal.returns-then-not-is_operand_declared
returns-then-not-is_operand_declared c =
    let inside = c.loop-operand-test.true in
    declared_more (operand_at c.args.places.now) (length c.args.places.now.variables.now) c.args.operands.now
    c.loop-operand.operand-index _ true c.is_operand_declared.result _ _ inside
    (get_or_default c.args.operands.now c.loop-operand.operand-index _ _ inside) c.loop-operand.invariant
    c.is_operand_declared.ensures (sym c.if-not-is_operand_declared.true)

pub returns : goal.returns
returns c =
    declared_all (operand_at c.args.places.now) (length c.args.places.now.variables.now) c.args.operands.now
    c.loop-operand.operand-index true _ c.loop-operand-test.false c.loop-operand.invariant
