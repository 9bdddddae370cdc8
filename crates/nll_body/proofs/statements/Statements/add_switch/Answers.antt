use Rattle.std.proofs.Common.{◌≡◌, ◌∙◌, ap, rules, subst, sym}
use Rattle.nll_types.specs.Operands.{operand_of}
use Rattle.nll_body.specs.Within.{IsFlatOperand, IsListedSlice}
use Rattle.nll_body.specs.contracts.statements.Statements.{the_view}
use Rattle.nll_body.proofs.AddedLemmas.{is_switch, within_switch}
use Rattle.nll_body.proofs.statements.Statements.add_switch.Goals as goal

operand_is : (c : goal.In_ok-push)
    → IsFlatOperand (the_view c.self.inside) (operand_of c.args.operand.now) c.in_ok-operand.operand
operand_is c =
    subst (λ l. IsFlatOperand l (operand_of c.args.operand.now) c.in_ok-operand.operand) (sym c.self.view_is)
    c.in_ok-operand.ensures.operand

blocks_are : (c : goal.In_ok-push) → IsListedSlice c.self.inside.blocks.items c.args.blocks.now c.in_ok-blocks.blocks
blocks_are c =
    let same : c.self.inside.blocks.items ≡ c.add_blocks.new.self.blocks =
    ap (λ l. l.blocks) c.self.view_is ∙ ap (λ l. l.blocks) c.add_operand.ensures.places.others in
    rw same c.in_ok-blocks.ensures.blocks

pub invariant_of-self-2 : goal.invariant_of-self-2
invariant_of-self-2 c =
    rw c.in_ok-push.ensures.items
    (within_switch (the_view c.self.inside) _ c.self.invariant ((operand_is c).0, (blocks_are c).0))

pub returns-clause-flat : goal.returns-clause-flat
returns-clause-flat c =
    rw c.in_ok-push.ensures.items
    (is_switch (the_view c.self.inside) _ c.len-number.result (operand_of c.args.operand.now) c.args.blocks.now
    c.self.invariant (search rules) (operand_is c) (blocks_are c))
