use Rattle.std.proofs.lemmas.List.{get_or_default}
use Rattle.nll_sets.proofs.PrefixLemmas.{prefix_further}
use Rattle.nll_body.specs.Flat.{operand_in}
use Rattle.nll_body.proofs.EffectLemmas.{variables_more, variables_all}
use Rattle.nll_body.proofs.statements.Statements.push_arguments.Goals as goal

pub loop-argument-preserved : goal.loop-argument-preserved
loop-argument-preserved c = (
  variables_more (λ a. operand_in c.args.self.now a.0) c.loop-argument.used.items c.push_operand.new.used.items _
      c.args.arguments.now c.loop-argument.argument-index _ c.loop-argument-test.true
      (get_or_default c.args.arguments.now c.loop-argument.argument-index _ _ c.loop-argument-test.true)
      c.in_ok-push_operand.ensures.ok c.loop-argument.invariant.0,
  prefix_further _ _ _ c.loop-argument.invariant.1 c.push_operand.ensures.begins,
)

pub returns-clause-ok : goal.returns-clause-ok
returns-clause-ok c =
    variables_all (λ a. operand_in c.args.self.now a.0) c.loop-argument.used.items _ c.args.arguments.now
    c.loop-argument.argument-index c.loop-argument-test.false c.loop-argument.invariant.0
