use Rattle.std.proofs.Common.{Contains, subst, sym}
use Rattle.nll_problem.specs.Problem.{Problem}
use Rattle.nll_core.proofs.indexed.Indexed.reading.Goals as goal

pub returns-clause-each : goal.returns-clause-each
returns-clause-each c = λ k. (
  λ h.
      let read = (c.reading.ensures.each k).0 h in
      (subst (λ (q : Problem). Contains q.constraints k) c.self.view_is ((c.self.invariant.1 k).0 read.0), read.1),
  λ h.
      (c.reading.ensures.each k).1
      ((c.self.invariant.1 k).1 (subst (λ (q : Problem). Contains q.constraints k) (sym c.self.view_is) h.0), h.1),
)
