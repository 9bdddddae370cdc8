use Rattle.nll_types.proofs.NumberLemmas.{shape_later}
use Rattle.nll_body.proofs.meetings.judge_operand.Goals as goal

pub returns-clause-judged : goal.returns-clause-judged
returns-clause-judged c = λ types t h e.
    let value =
    (rw c.shapes.ensures at c.shape_found-wanted.ensures.found) t
    (shape_later _ _ _ t c.find_operand.ensures.grows.extends c.requires.shape e) in
    (rw c.shapes-2.ensures at c.agree.ensures.judged) _ _ _ _ (c.in_ok-found.ensures.found types h) value
