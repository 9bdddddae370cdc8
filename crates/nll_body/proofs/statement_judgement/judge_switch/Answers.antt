use Rattle.std.proofs.Common.{Some, refl}
use Rattle.std.proofs.lemmas.Result.{IfOk-weaker}
use Rattle.nll_types.specs.Declarations.{structs_of}
use Rattle.nll_types.specs.Operands.{operand_type}
use Rattle.nll_types.specs.Types.{int}
use Rattle.nll_types.proofs.NumberLemmas.{shapes_later}
use Rattle.nll_body.specs.Judging.{operand_at}
use Rattle.nll_body.proofs.MeetingLemmas.{judged_as}
use Rattle.nll_body.proofs.JudgedLemmas.{one_agrees}
use Rattle.nll_body.proofs.statement_judgement.judge_switch.Goals as goal

pub returns-clause-judged : goal.returns-clause-judged
returns-clause-judged c =
    let structs = structs_of c.args.table.now.structs in
    let operand = operand_at c.args.places.now c.args.switch.now.operand in
    IfOk-weaker c.judge_operand.result _ _
    (λ j told. λ types f g h w. judged_as (one_agrees (operand_type structs types operand) (Some int)) refl
    (told types int (shapes_later _ _ _ types c.int.ensures.grows.extends c.requires.variables h)
    c.in_ok-int.ensures.at)) (rw c.int.ensures.grows.structs at c.judge_operand.ensures.judged)
