use Rattle.std.proofs.Common.{[], ◌∷◌}
use Rattle.nll_core.proofs.FrontierLemmas.{frontier_none}
use Rattle.nll_tests.proofs.element_frontiers.write_by.Goals as goal

pub write_grown-told-requires-clause-reached : goal.write_grown-told-requires-clause-reached
write_grown-told-requires-clause-reached g c =
    rw (c.new-frontier.ensures, c.in-Ok.ensures) (frontier_none c.args.graph.now _ (c.args.at ∷ []))
