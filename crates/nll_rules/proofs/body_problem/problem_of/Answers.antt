use Rattle.std.proofs.Common.{sym, ◌∙◌}
use Rattle.nll_rules.proofs.WholeLemmas.{not_too_many}
use Rattle.nll_rules.specs.BodyProblem.{IsProblemOf}
use Rattle.nll_rules.proofs.body_problem.problem_of.Goals as goal
use Rattle.nll_rules.proofs.body_problem.problem_of.Goals.{In-Ok-copy_graph}

pub copy_graph-requires-clause-points : goal.copy_graph-requires-clause-points
copy_graph-requires-clause-points c = c.graph.ensures.points ∙ sym c.in-Ok.ensures.ok.points

pub copy_graph-requires-clause-universals : goal.copy_graph-requires-clause-universals
copy_graph-requires-clause-universals c = c.graph.ensures.universals ∙ sym c.in-Ok.ensures.ok.universals

is_problem : (c : In-Ok-copy_graph) → IsProblemOf c.args.body.now c.copy_graph.new.self
is_problem c = rw c.in-Ok-copy_graph.ensures.ok (c.in-Ok.ensures.ok.each c.graph.result.now c.graph.ensures)

pub returns-in-Ok-copy_graph-clause-ok : goal.returns-in-Ok-copy_graph-clause-ok
returns-in-Ok-copy_graph-clause-ok c = is_problem (goal.at.returns-in-Ok-copy_graph-clause-ok c).In-Ok-copy_graph

pub returns-in-Ok-copy_graph-clause-few : goal.returns-in-Ok-copy_graph-clause-few
returns-in-Ok-copy_graph-clause-few c =
    not_too_many c.args.body.now c.copy_graph.new.self
    (is_problem (goal.at.returns-in-Ok-copy_graph-clause-few c).In-Ok-copy_graph) c.in-Ok-copy_graph.ensures.sound
