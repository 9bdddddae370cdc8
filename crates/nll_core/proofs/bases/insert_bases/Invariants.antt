use Rattle.nll_core.proofs.SolverLemmas.{Listing}
use Rattle.nll_core.proofs.bases.insert_bases.Given as goal

abbrev pub invariant-loop-run : goal.invariant-loop-run
invariant-loop-run l = Listing l.problem l.runs l.fn.values l.values l.run-index
