use Rattle.std.proofs.Common.{sym, subst}
use Rattle.nll_core.specs.Growing.{MeetsEach}
use Rattle.nll_core.proofs.SolverLemmas.{least_exact}
use Rattle.nll_tests.proofs.rounds.solve_by_rounds.Goals as goal

pub loop-values-init : goal.loop-values-init
loop-values-init c = record {
  shaped = c.in_ok-values.ensures.shaped;
  base = λ r e h. (c.in_ok-values.ensures.exact r e).1 h;
  below = λ assignment sat r e h. sat.base r e ((c.in_ok-values.ensures.exact r e).0 h);
}

pub round-requires : goal.round-requires
round-requires c = c.loop-values.invariant.shaped

pub loop-values-smaller : goal.loop-values-smaller
loop-values-smaller c = c.in_ok-round.ensures.tells.fewer c.if-branch.true

pub loop-values-preserved : goal.loop-values-preserved
loop-values-preserved c = record {
  shaped = c.round.ensures.shaped;
  base = λ r e h. c.round.ensures.kept r e (c.loop-values.invariant.base r e h);
  below = λ assignment sat. c.round.ensures.below assignment sat (c.loop-values.invariant.below assignment sat);
}

pub returns-clause-least : goal.returns-clause-least
returns-clause-least c =
    let same = c.in_ok-round.ensures.tells.same c.if-branch.false in
    least_exact c.args.problem.now c.round.new.values
    (λ r e h. c.round.ensures.kept r e (c.loop-values.invariant.base r e h))
    (λ assignment sat. c.round.ensures.below assignment sat (c.loop-values.invariant.below assignment sat))
    (subst (MeetsEach c.args.problem.now) (sym same) (c.in_ok-round.ensures.closed c.if-branch.false))
