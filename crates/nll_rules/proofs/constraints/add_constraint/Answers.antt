use Rattle.std.proofs.lemmas.Result.{err_from_is_err_and}
use Rattle.nll_rules.proofs.AddingLemmas.{adds_fact, refused_one}
use Rattle.nll_rules.proofs.constraints.add_constraint.Goals as goal

pub returns-clause-ok : goal.returns-clause-ok
returns-clause-ok c =
    adds_fact c.args.constraint c.args.builder.now c.constraint.new.self c.in_ok-constraint.ensures.ok
    c.in_ok-constraint.ensures.others

pub returns-in_err-constraint-clause-err : goal.returns-in_err-constraint-clause-err
returns-in_err-constraint-clause-err c =
    let p = err_from_is_err_and c.from_residual.result c.from_residual.ensures.1 in
    rw (p.1, p.2) (refused_one c.args.builder.now c.args.constraint _ c.constraints.ensures.sound c.requires.at
    c.requires.sup c.requires.sub c.in_err-constraint.ensures.answers)
