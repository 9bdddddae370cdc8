use Rattle.std.proofs.Common.{◌≡◌, ◌∙◌, List, ℕ, MatchResult, ap, map, sym, subst}
use Rattle.nll_command_line.specs.CommandLine.{AsksPlainlyForHelp, IsPlainLine}
use Rattle.nll_command_line.specs.Grammar.{IsHelpFor}
use Rattle.nll_command_line.proofs.AnswerLemmas.{line_ok, line_plain, line_help, line_err, unread_words}
use Rattle.nll_command_line.proofs.command_line.line.Goals as goal

pub returns-clause-ok : goal.returns-clause-ok
returns-clause-ok c =
    line_ok _ _ _ c.in_default.ensures.ok c.in_default.ensures.just c.with_options.result c.asked-asked.result
    c.with_options.ensures.ok c.with_options.ensures.err
    (rw c.as_slice.ensures.value at c.asked-asked.ensures.ok)

pub returns-in-Err-clause-err : goal.returns-in-Err-clause-err
returns-in-Err-clause-err c = unread_words _ c.in-Err.error c.in-Err.ensures.err

pub returns-clause-plain : goal.returns-clause-plain
returns-clause-plain c = λ task file others said read plain suits.
    line_plain _ _ _ c.in_default.ensures.ok c.in_default.ensures.just c.with_options.result c.asked-asked.result
    c.with_options.ensures.ok c.with_options.ensures.err task file others said read suits
    (λ same. c.asked-asked.ensures.plain task file
    (rw c.as_slice.ensures.value (subst (IsPlainLine task file) same plain)))

pub returns-clause-help : goal.returns-clause-help
returns-clause-help c = λ others said read asks.
    line_help _ _ _ c.in_default.ensures.ok c.in_default.ensures.just c.with_options.result c.asked-asked.result
    c.with_options.ensures.ok c.with_options.ensures.err others said read
    (λ same.
    let is : map (λ word. word.now) c.as_slice.result.now ≡ others =
    ap (map (λ word. word.now)) c.as_slice.ensures.value ∙ sym same in
    subst (λ (ws : List (List ℕ)). MatchResult c.asked-asked.result (λ _. ⊥) (IsHelpFor ws)) is
    (c.asked-asked.ensures.help (subst AsksPlainlyForHelp (sym is) asks)))

pub returns-clause-err : goal.returns-clause-err
returns-clause-err c =
    line_err _ _ _ c.in_default.ensures.ok c.in_default.ensures.just c.with_options.result c.asked-asked.result
    c.with_options.ensures.ok c.with_options.ensures.err
    (rw c.as_slice.ensures.value at c.asked-asked.ensures.err)
    (rw c.as_slice.ensures.value at c.asked-asked.ensures.taken)
    (rw c.as_slice.ensures.value at c.asked-asked.ensures.plain)
