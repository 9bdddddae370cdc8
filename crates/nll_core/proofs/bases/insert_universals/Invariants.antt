use Rattle.nll_core.proofs.SolverLemmas.{Filling}
use Rattle.nll_core.proofs.bases.insert_universals.Given as goal

abbrev pub invariant-loop-number : goal.invariant-loop-number
invariant-loop-number l = Filling l.problem l.fn.values l.values l.number
