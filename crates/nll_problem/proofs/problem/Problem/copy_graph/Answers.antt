use Rattle.std.proofs.Common.{◌≡◌, ap, ◌∙◌}
use Rattle.nll_problem.specs.Graph.{Graph, IsSound as IsSoundGraph}
use Rattle.nll_problem.proofs.ProblemLemmas.{sound_graph}
use Rattle.nll_problem.proofs.problem.Problem.copy_graph.Goals as goal

pub invariant_of-self : goal.invariant_of-self
invariant_of-self c =
    let copied = c.in_ok-self-inside.ensures in
    let sound : IsSoundGraph c.in_ok-self-inside.field-0 = rw copied c.points.ensures.sound in
    let points : c.in_ok-self-inside.field-0.points ≡ c.self.inside.graph.points =
    ap (λ (g : Graph). g.points) copied ∙ (rw (← c.self.view_is) at c.requires.points) in
    let universals : c.in_ok-self-inside.field-0.universals ≡ c.self.inside.graph.universals =
    ap (λ (g : Graph). g.universals) copied ∙ (rw (← c.self.view_is) at c.requires.universals) in (
      record {
        sound = sound_graph _ c.self.invariant.0.sound c.in_ok-self-inside.field-0 sound points universals;
        bases_ascend = c.self.invariant.0.bases_ascend;
        outlives_ascend = c.self.invariant.0.outlives_ascend;
      },
      c.self.invariant.1,
    )

pub returns-clause-sound : goal.returns-clause-sound
returns-clause-sound c = (invariant_of-self c).0.sound
