use Rattle.std.proofs.Common.{refl}
use Rattle.std.proofs.lemmas.Result.{err_from_is_err_and}
use Rattle.nll_report.proofs.RunLemmas.{answer_told}
use Rattle.nll_report.proofs.file_text.facts_of.Goals as goal

pub returns-in_err-read_meaning-in-Ok-clause-err : goal.returns-in_err-read_meaning-in-Ok-clause-err
returns-in_err-read_meaning-in-Ok-clause-err g c =
    let p = err_from_is_err_and c.from_residual.result c.from_residual.ensures.1 in
    rw p.1 (answer_told (g.T.Texts.holds c.args.texts.now)
    (g.T.Texts.lacks c.args.texts.now) _ _ _ _ _ _ c.as_str.ensures.value refl p.2 c.in-Ok.ensures.held
    c.in_err-read_meaning-in-Ok.ensures.err)
