use Rattle.nll_core.proofs.SolverLemmas.{Rounding}
use Rattle.nll_tests.proofs.rounds.round.Given as goal

abbrev pub invariant-loop-constraint : goal.invariant-loop-constraint
invariant-loop-constraint l = Rounding l.problem l.fn.values l.values l.changed l.constraint-index
