use Rattle.std.proofs.Common.{ℕ, Bool, IsTrue}
use Rattle.nll_problem.specs.Problem.{IsBase}
use Rattle.nll_problem.specs.Solution.{Satisfies}
use Rattle.nll_core.specs.Values.{IsShaped, IsHeld}
use Rattle.nll_core.specs.Growing.{IsBelow, missing_pairs}
use Rattle.nll_tests.proofs.rounds.solve_by_rounds.Given as goal

abbrev pub invariant-loop-values : goal.invariant-loop-values
invariant-loop-values l = record {
  shaped : IsShaped l.problem l.values;
  base : (r e : ℕ) → IsBase l.problem r e → IsHeld l.values r e;
  below : (assignment : ℕ → ℕ → Bool) → Satisfies l.problem (λ s f. IsTrue (assignment s f))
      → IsBelow l.values assignment;
}

abbrev pub decreases-loop-values : goal.decreases-loop-values
decreases-loop-values l = missing_pairs l.values
