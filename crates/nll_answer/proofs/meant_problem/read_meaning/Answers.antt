use Rattle.std.proofs.Common.{inr, sym, ◌∙◌, subst}
use Rattle.std.proofs.lemmas.Bool.{false≢true}
use Rattle.std.proofs.lemmas.Result.{err_from_is_err_and, IfOk-weaker, IfErr-weaker}
use Rattle.nll_answer.specs.Texts.{IsMir}
use Rattle.nll_answer.proofs.MeaningLemmas.{as_mir, as_body, named}
use Rattle.nll_answer.proofs.meant_problem.read_meaning.Goals as goal

pub facts_meaning-facts-requires : goal.facts_meaning-facts-requires
facts_meaning-facts-requires c = λ of. false≢true
    (sym c.if-is_mir.false ∙ c.is_mir.ensures.1
    (subst IsMir (c.as_slice-else-is_mir.ensures.value ∙ sym c.as_slice.ensures.value) of))

pub returns-in_err-body-clause-err : goal.returns-in_err-body-clause-err
returns-in_err-body-clause-err c =
    let p = err_from_is_err_and c.from_residual.result c.from_residual.ensures.1 in
    rw (p.1, p.2) (as_mir c.args.text.items _ (subst IsMir c.as_slice.ensures.value
    (c.is_mir.ensures.0 c.if-is_mir.true)) c.in_err-body.ensures.err)

pub returns-in_ok-body-clause-ok : goal.returns-in_ok-body-clause-ok
returns-in_ok-body-clause-ok c =
    IfOk-weaker c.facts_of_body.result _ _
    (λ q h. inr (c.in_ok-body.body, c.in_ok-body.ensures.ok, h)) c.facts_of_body.ensures.ok

pub returns-in_ok-body-clause-named : goal.returns-in_ok-body-clause-named
returns-in_ok-body-clause-named c =
    IfOk-weaker c.facts_of_body.result _ _
    (λ q h. named c.in_ok-body.body q.problem q.labels h) c.facts_of_body.ensures.ok

pub returns-in_ok-body-clause-err : goal.returns-in_ok-body-clause-err
returns-in_ok-body-clause-err c =
    IfErr-weaker c.facts_of_body.result _ _
    (λ e wrong. as_body c.args.text.items c.in_ok-body.body e c.in_ok-body.ensures.ok wrong) c.facts_of_body.ensures.err
