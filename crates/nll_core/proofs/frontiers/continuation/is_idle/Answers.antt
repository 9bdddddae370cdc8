use Rattle.std.proofs.Common.{ℕ, Contains, sym, subst, ◌∙◌}
use Rattle.std.proofs.lemmas.Bool.{false≢true}
use Rattle.nll_problem.specs.declared.at.At.TheVariants.{Point}
use Rattle.nll_core.proofs.PlaceLemmas.{point_in}
use Rattle.nll_core.proofs.frontiers.continuation.is_idle.Goals as goal
use Rattle.nll_core.proofs.frontiers.continuation.is_idle.Goals.{After-points-points}

begun : (c : After-points-points) (p : ℕ) → Contains c.args.starts.now (Point p) → Contains c.points-points.result p
begun c p h = (point_in c.points-points.result p).0 (subst (λ ps. Contains ps (Point p)) c.points-points.ensures h)

starts : (c : After-points-points) (p : ℕ) → Contains c.points-points.result p → Contains c.args.starts.now (Point p)
starts c p h =
    subst (λ ps. Contains ps (Point p)) (sym c.points-points.ensures) ((point_in c.points-points.result p).1 h)

pub returns : goal.returns
returns c =
    let d = (goal.at.returns c).After-points-points in (
      λ told. record {
        none = c.begins_nothing.ensures.none told;
        nowhere = λ every. false≢true (sym c.if-has_all.false ∙ c.has_all.ensures.1 every);
        apart = λ p h. c.begins_nothing.ensures.apart told p (begun d p h);
      },
      λ idle. c.begins_nothing.ensures.all idle.none (λ p h. idle.apart p (starts d p h)),
    )
