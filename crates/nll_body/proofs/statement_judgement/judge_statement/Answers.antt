use Rattle.std.proofs.Common.{◌<◌, ◌∙◌, length, refl, arith}
use Rattle.std.proofs.lemmas.Result.{IfOk-weaker}
use Rattle.nll_types.specs.Declarations.{structs_of}
use Rattle.nll_body.proofs.MeetingLemmas.{judged_as}
use Rattle.nll_body.proofs.JudgedLemmas.{return_order, return_small}
use Rattle.nll_body.proofs.statement_judgement.judge_statement.Goals as goal

pub returns-in-Assign-clause-judged : goal.returns-in-Assign-clause-judged
returns-in-Assign-clause-judged c = rw c.in-Assign.is c.judge_assign.ensures.judged

pub returns-in-Borrow-clause-judged : goal.returns-in-Borrow-clause-judged
returns-in-Borrow-clause-judged c = rw c.in-Borrow.is
    (IfOk-weaker c.judge_borrow.result _ _ (λ j told. told c.in-Borrow.field-2) c.judge_borrow.ensures.judged)

pub returns-in-Borrow-clause-declared : goal.returns-in-Borrow-clause-declared
returns-in-Borrow-clause-declared c = rw c.in-Borrow.is
    (IfOk-weaker c.judge_borrow.result _ _ (λ j told. told c.in-Borrow.field-2) c.judge_borrow.ensures.declared)

pub returns-in-Read-clause-judged : goal.returns-in-Read-clause-judged
returns-in-Read-clause-judged c = rw c.in-Read.is c.judge_read.ensures.judged

pub returns-in-Some-switch-clause-judged : goal.returns-in-Some-switch-clause-judged
returns-in-Some-switch-clause-judged c = rw (c.in-Switch.is, c.in-Some-switch.ensures) c.judge_switch.ensures.judged

pub returns-else-is_empty-clause-judged : goal.returns-else-is_empty-clause-judged
returns-else-is_empty-clause-judged c =
    let vs = c.args.places.now.variables.now in
    let some : 0 < length vs = grind arith in
    rw c.in-Return.is (λ types f g e w. judged_as refl ((rw c.shapes.ensures at c.is_small.ensures)
    ∙ (return_small (structs_of c.args.table.now.structs) c.args.table.now.shapes vs types e some ∙ return_order _))
    c.fitting-in-Return.ensures.judged)

pub returns-in-Some-clause-judged : goal.returns-in-Some-clause-judged
returns-in-Some-clause-judged c = rw (c.in-Make.is, c.in-Some.ensures) c.judge_make.ensures.judged

pub returns-in-Some-call-clause-judged : goal.returns-in-Some-call-clause-judged
returns-in-Some-call-clause-judged c = rw (c.in-Call.is, c.in-Some-call.ensures) c.judge_call.ensures.judged
