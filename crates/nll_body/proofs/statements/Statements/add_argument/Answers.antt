use Rattle.std.proofs.Common.{subst, sym}
use Rattle.nll_types.specs.Operands.{operand_of}
use Rattle.nll_types.specs.declared.typed.Typed.{Typed}
use Rattle.nll_body.specs.Within.{AddsPlaces, AreWithin, ListsGrow, IsFlatOperand}
use Rattle.nll_body.specs.declared.flat.FlatOperand.{FlatOperand}
use Rattle.nll_body.specs.contracts.statements.Statements.{the_view}
use Rattle.nll_body.proofs.FlatLemmas.{places_grow}
use Rattle.nll_body.proofs.AddedLemmas.{argument_added, grows_argument, within_argument}
use Rattle.nll_body.proofs.statements.Statements.add_argument.Goals as goal

-- what is put behind the list
abbrev argument : (c : goal.In_ok-push) → FlatOperand × Typed
argument c = (c.in_ok-operand.operand, c.args.ty)

is_flat : (c : goal.In_ok-push)
    → IsFlatOperand (the_view c.self-2.inside) (operand_of c.args.operand.now) c.in_ok-operand.operand
is_flat c =
    subst (λ l. IsFlatOperand l (operand_of c.args.operand.now) c.in_ok-operand.operand) (sym c.self-2.view_is)
    c.in_ok-operand.ensures.operand

places : (c : goal.In_ok-push) → AddsPlaces c.args.self.now (the_view c.self-2.inside)
places c = subst (AddsPlaces c.args.self.now) (sym c.self-2.view_is) c.add_operand.ensures.places

pub invariant_of-self-2 : goal.invariant_of-self-2
invariant_of-self-2 c =
    rw c.in_ok-push.ensures.items
    (within_argument (the_view c.self-2.inside) (argument c) c.self-2.invariant (is_flat c).0)

pub returns-clause-added : goal.returns-clause-added
returns-clause-added c =
    rw c.in_ok-push.ensures.items
    (argument_added c.args.self.now (the_view c.self-2.inside) (argument c) (operand_of c.args.operand.now)
    (subst AreWithin c.self.view_is c.self.invariant) c.self-2.invariant (places c) (is_flat c))

pub returns-clause-grows : goal.returns-clause-grows
returns-clause-grows c =
    rw c.in_ok-push.ensures.items
    (grows_argument c.args.self.now (the_view c.self-2.inside) (argument c) (places c))

pub returns-in_err-push-clause-grows : goal.returns-in_err-push-clause-grows
returns-in_err-push-clause-grows c =
    rw c.in_err-push.ensures.items (subst (ListsGrow c.args.self.now) (sym c.self-2.view_is)
    (places_grow _ _ c.add_operand.ensures.places))
