use Rattle.std.proofs.Common.{inl, inr, string_bytes}
use Rattle.std.proofs.lemmas.Result.{IfErr-weaker, IfOk-weaker, MatchResult-weaker}
use Rattle.nll_command_line.specs.Options.{options_said}
use Rattle.nll_report.proofs.LineLemmas.{asked_line, help_told, lawful_count, words_told}
use Rattle.nll_report.proofs.RunLemmas.{line_told}
use Rattle.nll_report.proofs.program.report.Goals as goal

pub answered-requires-clause-owners : goal.answered-requires-clause-owners
answered-requires-clause-owners g c = λ κs bounds. let ok = c.in-Ok.ensures.ok in
    lawful_count _ ok.0 (options_said c.in-Ok.line) ok.1

pub returns-in-Ok-clause-ok : goal.returns-in-Ok-clause-ok
returns-in-Ok-clause-ok g c =
    IfOk-weaker c.answered.result _ _
    (λ r h. inl (record {
      task = c.in-Ok.line.task;
      file = string_bytes c.in-Ok.line.file;
      said = options_said c.in-Ok.line;
      asked = asked_line _ _ _ _ c.in-Ok.ensures.ok c.in-Ok.ensures.help;
      answer = h;
    }))
    c.answered.ensures.ok

pub returns-in-Ok-clause-err : goal.returns-in-Ok-clause-err
returns-in-Ok-clause-err g c =
    IfErr-weaker c.answered.result _ _
    (λ e h. line_told _ _ _ _ _ c.in-Ok.line.task (asked_line _ _ _ _ c.in-Ok.ensures.ok c.in-Ok.ensures.help) e h)
    c.answered.ensures.err

pub returns-in-Err-clause-ok : goal.returns-in-Err-clause-ok
returns-in-Err-clause-ok g c =
    IfOk-weaker c.without_line.result _ _
    (λ r h. inr (help_told _ c.in-Err.error _ _ c.in-Err.ensures.err h))
    (MatchResult-weaker c.without_line.result c.without_line.ensures (λ r h. h) (λ e h. tt))

pub returns-in-Err-clause-err : goal.returns-in-Err-clause-err
returns-in-Err-clause-err g c =
    IfErr-weaker c.without_line.result _ _
    (λ e h. words_told (g.T.Texts.holds c.args.texts.now)
    (g.T.Texts.lacks c.args.texts.now) _ c.in-Err.error e c.in-Err.ensures.err c.in-Err.ensures.help h)
    (MatchResult-weaker c.without_line.result c.without_line.ensures (λ r h. tt) (λ e h. h))
