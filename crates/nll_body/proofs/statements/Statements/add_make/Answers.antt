use Rattle.std.proofs.Common.{map, rules, subst, sym}
use Rattle.nll_types.specs.Operands.{operand_of}
use Rattle.nll_types.specs.Places.{path_of}
use Rattle.nll_body.specs.Within.{AreFlatOperands, IsNumberOf}
use Rattle.nll_body.specs.contracts.statements.Statements.{the_view}
use Rattle.nll_body.proofs.FlatLemmas.{number_kept}
use Rattle.nll_body.proofs.AddedLemmas.{is_make, within_make}
use Rattle.nll_body.proofs.statements.Statements.add_make.Goals as goal

place_is : (c : goal.In_ok-push)
    → IsNumberOf (the_view c.self.inside) (path_of c.args.place.now) c.in_ok-place.place
place_is c =
    subst (λ l. IsNumberOf l (path_of c.args.place.now) c.in_ok-place.place) (sym c.self.view_is)
    (number_kept c.add_place.new.self c.add_operands.new.self c.add_place.ensures.within
    c.add_operands.ensures.grows.lists (path_of c.args.place.now) c.in_ok-place.place c.in_ok-place.ensures.number)

operands_are : (c : goal.In_ok-push)
    → AreFlatOperands (the_view c.self.inside) (map operand_of c.args.operands.now) c.in_ok-operands.operands
operands_are c =
    subst (λ l. AreFlatOperands l (map operand_of c.args.operands.now) c.in_ok-operands.operands) (sym c.self.view_is)
    c.in_ok-operands.ensures.operands

pub invariant_of-self-2 : goal.invariant_of-self-2
invariant_of-self-2 c =
    rw c.in_ok-push.ensures.items
    (within_make (the_view c.self.inside) _ c.self.invariant ((place_is c).0, (operands_are c).0))

pub returns-clause-flat : goal.returns-clause-flat
returns-clause-flat c =
    rw c.in_ok-push.ensures.items
    (is_make (the_view c.self.inside) _ c.len-number.result (path_of c.args.place.now)
    (map operand_of c.args.operands.now) c.self.invariant (search rules) (place_is c) (operands_are c))
