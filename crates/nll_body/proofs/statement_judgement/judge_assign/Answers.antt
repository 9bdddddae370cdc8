use Rattle.std.proofs.Common.{arith}
use Rattle.std.proofs.Math.Bool.{and-true, and_comm}
use Rattle.nll_types.specs.Declarations.{structs_of}
use Rattle.nll_types.specs.Operands.{operand_type}
use Rattle.nll_types.specs.Places.{type_of}
use Rattle.nll_types.proofs.NumberLemmas.{shapes_later}
use Rattle.nll_body.specs.Judging.{operand_at, path_at}
use Rattle.nll_body.proofs.MeetingLemmas.{found_later, judged_as}
use Rattle.nll_body.proofs.JudgedLemmas.{one_agrees}
use Rattle.nll_body.proofs.statement_judgement.judge_assign.Goals as goal

pub returns-clause-judged : goal.returns-clause-judged
returns-clause-judged c = λ types f g h w.
    let structs = structs_of c.args.table.now.structs in
    let operand = operand_at c.args.places.now c.args.operand in
    let place = path_at c.args.places.now c.args.place in
    let first = c.in_ok-source.ensures.found types h in
    let second =
    (rw c.find_operand.ensures.grows.structs at c.in_ok-target.ensures.found) types
    (shapes_later _ _ _ types c.find_operand.ensures.grows.extends c.requires.variables h) in
    judged_as (one_agrees (operand_type structs types operand) (type_of structs types place))
    (grind (arith, and-true, and_comm))
    ((rw c.shapes.ensures at c.agree.ensures.judged) _ _ _ _ (found_later _ _ _ _ _ _
    c.find_place.ensures.grows.extends c.in_ok-source.ensures.within first) second)
