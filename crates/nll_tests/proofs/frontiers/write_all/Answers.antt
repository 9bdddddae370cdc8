use Rattle.std.proofs.Common.{◌≡◌, ◌++◌, [], ◌∷◌, ap, ◌∙◌}
use Rattle.nll_problem.specs.Graph.{element_count}
use Rattle.nll_problem.specs.declared.at.At.TheVariants.{All, Point}
use Rattle.nll_core.specs.Frontiers.{Frontier, first_frontier}
use Rattle.nll_core.proofs.FrontierLemmas.{frontier_none}
use Rattle.nll_tests.proofs.frontiers.write_all.Goals as goal

pub write_grown-told-requires-clause-reached : goal.write_grown-told-requires-clause-reached
write_grown-told-requires-clause-reached c =
    let two : c.add.new.self ≡ first_frontier (All ∷ Point 2 ∷ []) =
    c.in-Ok.ensures.ok ∙ ap (λ (f : Frontier). record f { starts = f.starts ++ Point 2 ∷ [] }) c.new-frontier.ensures in
    rw (two, c.requires.none) (frontier_none c.args.steps.now (element_count c.args.steps.now) (All ∷ Point 2 ∷ []))
