use Rattle.std.proofs.Common.{[], ◌∷◌}
use Rattle.nll_problem.specs.Graph.{element_count}
use Rattle.nll_problem.specs.declared.at.At.TheVariants.{Point}
use Rattle.nll_core.proofs.FrontierLemmas.{frontier_none}
use Rattle.nll_tests.proofs.frontiers.write_one.Goals as goal

pub write_grown-told-requires-clause-reached : goal.write_grown-told-requires-clause-reached
write_grown-told-requires-clause-reached c =
    rw (c.new-frontier.ensures, c.requires.none)
    (frontier_none c.args.steps.now (element_count c.args.steps.now) (Point 0 ∷ []))
