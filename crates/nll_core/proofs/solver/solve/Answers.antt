use Rattle.nll_core.proofs.SolverLemmas.{least_exact}
use Rattle.nll_core.proofs.solver.solve.Goals as goal

pub returns-clause-least : goal.returns-clause-least
returns-clause-least c = least_exact c.args.problem.now c.close.new.values
    (λ r e h. c.in_ok-close.ensures.kept r e ((c.in_ok-values.ensures.exact r e).1 h))
    (λ assignment sat. c.in_ok-close.ensures.below assignment sat
    (λ r e h. sat.base r e ((c.in_ok-values.ensures.exact r e).0 h)))
    c.in_ok-close.ensures.closed
