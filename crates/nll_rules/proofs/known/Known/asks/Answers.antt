use Rattle.std.proofs.Common.{arith, subst}
use Rattle.nll_body.specs.Flat.{operand_in, path_in}
use Rattle.nll_body.specs.Meant.{HasRows}
use Rattle.nll_rules.specs.Flows.{place_type}
use Rattle.nll_rules.proofs.AgreeLemmas.{assign_agrees}
use Rattle.nll_rules.proofs.FlowLemmas.{called_is, made_is, switched_asks}
use Rattle.nll_rules.proofs.KnowingLemmas.{at_hand_known}
use Rattle.nll_rules.proofs.PairLemmas.{adds_none, adds_same}
use Rattle.nll_rules.proofs.StatementLemmas.{asks_assign}
use Rattle.nll_rules.proofs.known.Known.asks.Goals as goal

pub ask_make-requires-clause-row : goal.ask_make-requires-clause-row
ask_make-requires-clause-row c =
    let k = c.args.self.now in
    let make = c.in-Some.make.now in
    let is = made_is k.lists c.args.statement.now c.in-Make.number make c.in-Make.is
    (rw c.statements.ensures at c.in-Some.ensures) in
    subst (HasRows k.shapes k.regions) is c.requires.rows 0 make.ty (omega arith)

pub ask_call-requires-clause-rows : goal.ask_call-requires-clause-rows
ask_call-requires-clause-rows c =
    let k = c.args.self.now in
    subst (HasRows k.shapes k.regions) (called_is k.lists c.args.statement.now c.in-Call.number c.in-Some-call.call.now
    c.in-Call.is (rw c.statements-in-Call.ensures at c.in-Some-call.ensures)) c.requires.rows

pub ask_from-requires : goal.ask_from-requires
ask_from-requires c =
    at_hand_known c.walk.new.self (place_type c.args.self.now c.in-Assign.place) c.in_ok-other-in-Assign.other
    c.in_ok-other-in-Assign.ensures.row

pub returns-in_ok-ask_from-in-Assign-clause-asked : goal.returns-in_ok-ask_from-in-Assign-clause-asked
returns-in_ok-ask_from-in-Assign-clause-asked c =
    let k = c.args.self.now in
    let l = c.walk.ensures.learns in
    let p = path_in k.lists c.in-Assign.place in
    let op = operand_in k.lists c.in-Assign.operand in
    rw c.in-Assign.is (adds_same _ _ _ _ (λ x. asks_assign k.structs k.variables p op x)
    ((rw (l.structs, l.variables, l.lists) at
    (c.in_ok-ask_from-in-Assign.ensures.asked (place_type k c.in-Assign.place) c.in_ok-other-in-Assign.ensures.row))
    (assign_agrees k.structs k.variables p op (rw c.in-Assign.is at c.requires.agree))))

pub returns-in_ok-ask_borrow-in-Borrow-clause-asked : goal.returns-in_ok-ask_borrow-in-Borrow-clause-asked
returns-in_ok-ask_borrow-in-Borrow-clause-asked c =
    rw c.in-Borrow.is (c.in_ok-ask_borrow-in-Borrow.ensures.asked c.in-Borrow.field-0
    (rw c.in-Borrow.is at c.requires.agree))

pub returns-in-Switch-clause-asked : goal.returns-in-Switch-clause-asked
returns-in-Switch-clause-asked c =
    rw c.in-Switch.is (adds_none _ _ (switched_asks c.args.self.now c.in-Switch.field-0))
