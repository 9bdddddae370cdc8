use Rattle.std.proofs.Common.{inl}
use Rattle.std.proofs.lemmas.Result.{IfOk-weaker, IfErr-weaker}
use Rattle.nll_facts.specs.FactsText.{IsFactsFault}
use Rattle.nll_answer.proofs.MeaningLemmas.{as_facts, told_err, told_ok}
use Rattle.nll_answer.proofs.meant_problem.facts_meaning.Goals as goal

pub returns-clause-ok : goal.returns-clause-ok
returns-clause-ok c = IfOk-weaker c.told.result _ _ (λ q means. inl means)
    (told_ok _ c.read_facts.result c.told.result c.told.ensures.ok c.told.ensures.err c.read_facts.ensures.ok)

pub returns-clause-err : goal.returns-clause-err
returns-clause-err c =
    IfErr-weaker c.told.result _ _ (λ e wrong. as_facts c.args.text.now e c.requires wrong)
    (told_err (IsFactsFault c.args.text.now) c.read_facts.result c.told.result c.told.ensures.ok c.told.ensures.err
    c.read_facts.ensures.fault)
