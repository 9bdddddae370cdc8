use Rattle.nll_core.proofs.WorklistLemmas.{FillingAll}
use Rattle.nll_core.proofs.satisfaction.fill_all.Given as goal

abbrev pub invariant-loop-run : goal.invariant-loop-run
invariant-loop-run l = FillingAll l.region l.runs l.fn.values l.values l.changed l.run-index
