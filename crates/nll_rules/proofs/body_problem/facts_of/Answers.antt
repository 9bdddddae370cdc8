use Rattle.nll_rules.proofs.WholeLemmas.{finished_ok}
use Rattle.nll_rules.proofs.body_problem.facts_of.Goals as goal

pub fill-requires : goal.fill-requires
fill-requires c = rw (← c.points.ensures.value, ← c.universals.ensures) c.in_ok-builder.ensures.ok

pub returns-in-Ok-clause-ok : goal.returns-in-Ok-clause-ok
returns-in-Ok-clause-ok c =
    finished_ok c.args.body.now c.fill.new.builder c.finish.result c.in-Ok.ensures.ok c.finish.ensures.ok
    c.finish.ensures.others
