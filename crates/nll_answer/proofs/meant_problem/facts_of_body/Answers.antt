use Rattle.nll_answer.proofs.MeaningLemmas.{labelled_err, labelled_ok}
use Rattle.nll_answer.proofs.meant_problem.facts_of_body.Goals as goal

pub returns-clause-ok : goal.returns-clause-ok
returns-clause-ok c =
    labelled_ok (λ f. f.problem) (λ f. f.labels) c.args.body c.problem_of-problem.result c.labelled.result
    c.labelled.ensures.ok c.labelled.ensures.err
    c.problem_of-problem.ensures.ok c.problem_of-problem.ensures.few

pub returns-clause-err : goal.returns-clause-err
returns-clause-err c =
    labelled_err (λ f. f.problem) (λ f. f.labels) c.args.body c.problem_of-problem.result c.labelled.result
    c.labelled.ensures.ok c.labelled.ensures.err
    c.problem_of-problem.ensures.err
