use Rattle.nll_mir_text.specs.MirText.{IsMirFault}
use Rattle.nll_answer.proofs.MeaningLemmas.{told_err, told_ok}
use Rattle.nll_answer.proofs.meant_problem.body_of.Goals as goal

pub returns-clause-ok : goal.returns-clause-ok
returns-clause-ok c =
    told_ok _ c.read_mir.result c.told.result c.told.ensures.ok c.told.ensures.err c.read_mir.ensures.ok

pub returns-clause-err : goal.returns-clause-err
returns-clause-err c =
    told_err (IsMirFault c.args.text.now) c.read_mir.result c.told.result c.told.ensures.ok c.told.ensures.err
    c.read_mir.ensures.fault
