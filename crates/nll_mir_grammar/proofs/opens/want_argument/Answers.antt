use Rattle.std.proofs.Common.{sym, ◌∙◌}
use Rattle.nll_text.specs.LineTokens.{tokens_in}
use Rattle.nll_mir_grammar.proofs.LoopLemmas.{further_no_region, further_region, stuck_no_name}
use Rattle.nll_mir_grammar.proofs.opens.want_argument.Goals as goal

pub returns-in_default : goal.returns-in_default
returns-in_default c =
    λ frames t r. further_no_region (tokens_in c.args.line.now) frames t _ _ c.in_default.ensures.begins r

pub returns-then-not-has_name : goal.returns-then-not-has_name
returns-then-not-has_name c =
    λ frames t r. stuck_no_name (tokens_in c.args.line.now) _ frames t c.in-Some.region.now
    (sym (c.has_name.ensures frames t _ r) ∙ c.if-not-has_name.true) c.in-Some.ensures.begins

pub returns : goal.returns
returns c =
    λ frames t r. further_region (tokens_in c.args.line.now) _ frames t _ _ _ c.in-Some.region _
    (sym (c.has_name.ensures frames t _ r) ∙ c.if-not-has_name.false) c.in-Some.ensures.begins c.in_ok-state.ensures r
