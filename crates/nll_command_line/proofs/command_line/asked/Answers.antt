use Rattle.std.proofs.Common.{◌≡◌, ◌∙◌, true, map, sym, ap, subst, true≢false}
use Rattle.std.proofs.lemmas.Result.{IfOk-weaker}
use Rattle.clap.specs.Words.{HasKind, fault_of, is_simple, is_simple_and_free, kind_of, subcommand_of, subcommand_rows_of, takes}
use Rattle.clap.specs.declared.error.kind.ErrorKind.TheVariants.{OutOfMemory}
use Rattle.nll_command_line.specs.Grammar.{IsErrorTold, line_of_matches, program}
use Rattle.nll_command_line.proofs.GrammarLemmas.{is_simple-program, is_simple_and_free-program, plain_result}
use Rattle.nll_command_line.proofs.HelpLemmas.{help_alone_is_not_taken, help_given, help_is_not_taken}
use Rattle.nll_command_line.proofs.LineErrorLemmas.{matches_without_line, memory_told, words_without_matches}
use Rattle.nll_command_line.proofs.LineLemmas.{line_is}
use Rattle.nll_command_line.proofs.PlainLineLemmas.{line_by_grammar-plain, takes-plain}
use Rattle.nll_command_line.proofs.command_line.asked.Goals as goal

pub returns-in-Ok : goal.returns-in-Ok
returns-in-Ok c =
    let texts = map (λ word. word.now) c.args.words.now in
    let app_is = c.in_ok-grammar.ensures in
    let read : subcommand_rows_of c.in-Ok.matches ≡ subcommand_of program texts =
    (c.in-Ok.ensures.matches (ap is_simple app_is ∙ is_simple-program)).1 ∙ ap (λ a. subcommand_of a texts) app_is in
    let none = ap (λ a. fault_of a texts) (sym app_is)
    ∙ c.in-Ok.ensures.kinds (ap is_simple_and_free app_is ∙ is_simple_and_free-program) in
    record {
      ok = IfOk-weaker c.line_of-line.result _ _
          (λ l h. line_is texts _ _ none (sym (ap line_of_matches read) ∙ h)) c.line_of-line.ensures.ok;
      plain = λ task file h.
          plain_result c.line_of-line.result task file
          (sym (line_by_grammar-plain task file _ h) ∙ ap line_of_matches (sym read)) c.line_of-line.ensures.ok
          c.line_of-line.ensures.err;
      help = λ h. absurd (help_is_not_taken texts none h);
      taken = λ ok asks. help_alone_is_not_taken texts none asks;
      err = matches_without_line texts c.line_of-line.result none
          (ap line_of_matches (sym read)) c.line_of-line.ensures.err;
    }

pub returns-in-Err : goal.returns-in-Err
returns-in-Err c =
    let texts = map (λ word. word.now) c.args.words.now in
    let app_is = c.in_ok-grammar.ensures in
    let kinds = c.in-Err.ensures.kinds (ap is_simple_and_free app_is ∙ is_simple_and_free-program) in
    let passes : takes program texts ≡ true → kind_of c.in-Err.error ≡ OutOfMemory =
    λ h. c.in-Err.ensures.passes (ap (λ a. takes a texts) app_is ∙ h) in
    let told = subst (λ k. IsErrorTold texts k c.refusal-refusal.result) c.kind.ensures c.refusal-refusal.ensures in
    let refused = words_without_matches texts c.refusal-refusal.result (kind_of c.in-Err.error)
    (subst (λ a. HasKind (fault_of a texts) c.in-Err.error) app_is kinds) passes told in
    record {
      ok = tt;
      plain = λ task file h.
          memory_told texts c.refusal-refusal.result
          (subst (λ k. IsErrorTold texts k c.refusal-refusal.result) (passes (takes-plain task file texts h)) told);
      help = λ h. help_given texts c.refusal-refusal.result h refused;
      taken = λ ok asks. true≢false (sym ok);
      err = refused;
    }
