use Rattle.nll_text.specs.LineTokens.{tokens_in}
use Rattle.nll_mir_grammar.proofs.FurtherLemmas.{further_end}
use Rattle.nll_mir_grammar.proofs.LoopLemmas.{further_comma, stuck_inside}
use Rattle.nll_mir_grammar.proofs.opens.inside.Goals as goal

pub returns-in_default : goal.returns-in_default
returns-in_default c = λ frames t r. c.in_default.ensures.ends frames t _ r t (tokens_in c.args.line.now)

pub returns-in-Some-after_sign : goal.returns-in-Some-after_sign
returns-in-Some-after_sign c =
    λ frames t r. further_comma (tokens_in c.args.line.now) _ frames t c.in-Some.closing c.in-Some.next _ _
    (c.in-Some.ensures.ends frames t _ r) c.in-Some-after_sign.ensures r

pub returns-in_default-after_sign-2 : goal.returns-in_default-after_sign-2
returns-in_default-after_sign-2 c =
    λ frames t r. stuck_inside (tokens_in c.args.line.now) frames t c.in-Some.closing c.in-Some.next
    (c.in-Some.ensures.ends frames t _ r) c.in_default-after_sign.ensures c.in_default-after_sign-2.ensures

pub returns : goal.returns
returns c =
    λ frames t r. further_end (tokens_in c.args.line.now) _ frames t c.in-Some.closing _ _ _ _
    c.in-Some-after_sign-2.ensures
    (c.in_ok-state.ensures frames t c.in-Some.closing c.in-Some.next r (c.in-Some.ensures.ends frames t _ r))
