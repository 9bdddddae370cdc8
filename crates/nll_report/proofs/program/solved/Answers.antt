use Rattle.std.proofs.Common.{ap, inl, option_map, refl, string_bytes}
use Rattle.std.proofs.lemmas.Result.{err_from_is_err_and, IfErr-weaker, IfOk-weaker}
use Rattle.nll_command_line.specs.Options.{options_said}
use Rattle.nll_report.proofs.OwnerLemmas.{may_be_asked, owners_answer, owners_told}
use Rattle.nll_report.proofs.RunLemmas.{answer_told}
use Rattle.nll_report.proofs.program.solved.Goals as goal

pub answered_by_owners-requires-after_bounds : goal.answered_by_owners-requires-after_bounds
answered_by_owners-requires-after_bounds g c =
    λ κs bounds. may_be_asked c.args.line.owners _ c.requires c.in-Some.ensures.1

pub returns-in-Some-clause-ok : goal.returns-in-Some-clause-ok
returns-in-Some-clause-ok g c =
    let asked = c.in-Some.ensures in
    IfOk-weaker c.answered_by_owners.result _ _
    (λ r h. owners_answer (g.T.Texts.holds c.args.texts.now) (string_bytes c.args.line.file) c.args.command
    (options_said c.args.line) r.0.items r.1 _ _ _ asked.1 asked.2 (ap (option_map string_bytes) asked.3) h)
    c.answered_by_owners.ensures.ok

pub returns-in-Some-clause-err : goal.returns-in-Some-clause-err
returns-in-Some-clause-err g c =
    let asked = c.in-Some.ensures in
    IfErr-weaker c.answered_by_owners.result _ _
    (λ e h. owners_told (g.T.Texts.holds c.args.texts.now) (g.T.Texts.lacks c.args.texts.now)
    (string_bytes c.args.line.file) (options_said c.args.line)
    _ _ _ e asked.1 asked.2 (ap (option_map string_bytes) asked.3) asked.0 h)
    c.answered_by_owners.ensures.err

pub returns-in_err-answer_text-in-Ok-clause-err : goal.returns-in_err-answer_text-in-Ok-clause-err
returns-in_err-answer_text-in-Ok-clause-err g c =
    let p = err_from_is_err_and c.from_residual.result c.from_residual.ensures.1 in
    rw p.1 (inl (answer_told (g.T.Texts.holds c.args.texts.now)
    (g.T.Texts.lacks c.args.texts.now) _ _ _ _ _ _ c.as_str.ensures.value refl p.2 c.in-Ok.ensures.held
    c.in_err-answer_text-in-Ok.ensures.err))
