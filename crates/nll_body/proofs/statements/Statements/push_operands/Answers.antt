use Rattle.std.proofs.lemmas.List.{get_or_default}
use Rattle.nll_sets.proofs.PrefixLemmas.{prefix_further}
use Rattle.nll_body.specs.Flat.{operand_in}
use Rattle.nll_body.proofs.EffectLemmas.{variables_more, variables_all}
use Rattle.nll_body.proofs.statements.Statements.push_operands.Goals as goal

pub loop-operand-preserved : goal.loop-operand-preserved
loop-operand-preserved c = (
  variables_more (operand_in c.args.self.now) c.loop-operand.used.items c.push_operand.new.used.items _
      c.args.operands.now c.loop-operand.operand-index _ c.loop-operand-test.true
      (get_or_default c.args.operands.now c.loop-operand.operand-index _ _ c.loop-operand-test.true)
      c.in_ok-push_operand.ensures.ok c.loop-operand.invariant.0,
  prefix_further _ _ _ c.loop-operand.invariant.1 c.push_operand.ensures.begins,
)

pub returns-clause-ok : goal.returns-clause-ok
returns-clause-ok c =
    variables_all (operand_in c.args.self.now) c.loop-operand.used.items _ c.args.operands.now
    c.loop-operand.operand-index c.loop-operand-test.false c.loop-operand.invariant.0
