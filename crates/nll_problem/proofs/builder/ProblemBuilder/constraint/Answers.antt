use Rattle.std.proofs.Common.{◌<◌, ◌⊎◌, IsTrue, rules}
use Rattle.std.specs.Prelude.{IsFalse}
use Rattle.nll_problem.specs.Answers.{AddsFact}
use Rattle.nll_problem.specs.At.{IsAmong}
use Rattle.nll_problem.specs.Building.{has_constraint, is_full}
use Rattle.nll_problem.proofs.FactLemmas.{adds_constraint, once_constraint, within_added}
use Rattle.nll_problem.proofs.ProblemLemmas.{sound_constraints}
use Rattle.nll_problem.proofs.builder.ProblemBuilder.constraint.Goals as goal
use Rattle.nll_problem.proofs.builder.ProblemBuilder.constraint.Goals.{In_ok-insert}

adds : (c : In_ok-insert) → AddsFact c.self.inside.constraints.items c.insert.new.constraints.items c.args.constraint
adds c = rw c.in_ok-insert.ensures.ok (adds_constraint c.self.inside.constraints.items c.args.constraint)

pub invariant_of-self : goal.invariant_of-self
invariant_of-self c =
    (rw c.in_err-insert.ensures.err c.self.invariant.0, c.insert.ensures.known, c.self.invariant.2)

pub invariant_of-self-2 : goal.invariant_of-self-2
invariant_of-self-2 c =
    let d = (goal.at.invariant_of-self-2 c).In_ok-insert in
    let sup : c.args.constraint.sup < c.args.self.now.regions = search rules in
    let sub : c.args.constraint.sub < c.args.self.now.regions = search rules in
    let at : IsAmong c.args.self.now.graph.points c.args.constraint.at = search rules in
    let room : IsTrue (has_constraint c.args.self.now c.args.constraint) ⊎ IsFalse (is_full c.args.self.now) =
    search rules in (
      sound_constraints _ c.self.invariant.0 _ c.args.constraint (λ x. ((adds d).each x).0)
          (rw c.in_ok-insert.ensures.ok
          (once_constraint _ c.args.constraint c.self.invariant.0.constraints_once))
          (rw (← c.self.view_is) at sup) (rw (← c.self.view_is) at sub)
          (rw (← c.self.view_is) at at)
          (within_added _ _ c.args.constraint _ (adds d) c.self.invariant.0.constraint_limit
          (rw (← c.self.view_is) at room)),
      c.insert.ensures.known,
      c.self.invariant.2,
    )

pub returns-clause-ok : goal.returns-clause-ok
returns-clause-ok c = rw (← c.self.view_is) (adds (goal.at.returns-clause-ok c).In_ok-insert)
