use Rattle.nll_text.specs.LineTokens.{tokens_in}
use Rattle.nll_mir_grammar.proofs.StepLemmas.{stuck_want}
use Rattle.nll_mir_grammar.proofs.FurtherLemmas.{further_begin}
use Rattle.nll_mir_grammar.proofs.LoopLemmas.{further_arrow}
use Rattle.nll_mir_grammar.proofs.opens.step.Goals as goal

pub returns-in_default : goal.returns-in_default
returns-in_default c =
    rw c.in-Want.is (λ frames t r. stuck_want frames t (tokens_in c.args.line.now) c.in_default.ensures)

pub returns-in_ok-next-in-Want : goal.returns-in_ok-next-in-Want
returns-in_ok-next-in-Want c =
    rw c.in-Want.is (λ frames t r. further_begin _ _ _ frames t _ _ _ _ c.in-Some.ensures
    (c.in_ok-next-in-Want.ensures frames t r))

pub returns-in-WantArgument : goal.returns-in-WantArgument
returns-in-WantArgument c = rw c.in-WantArgument.is c.want_argument.ensures

pub returns-in-Inside : goal.returns-in-Inside
returns-in-Inside c = rw c.in-Inside.is c.inside.ensures

pub returns-in-Some-after_arrow : goal.returns-in-Some-after_arrow
returns-in-Some-after_arrow c =
    rw c.in-WantArrow.is (λ frames t r. further_arrow (tokens_in c.args.line.now) _ frames t _ _
    c.in-Some-after_arrow.ensures r)
