use Rattle.nll_core.specs.Outliving.{FindsUpTo}
use Rattle.nll_core.proofs.fault_check.faults.Given as goal

abbrev pub invariant-loop-longer : goal.invariant-loop-longer
invariant-loop-longer l = FindsUpTo l.problem l.values l.faults.items l.longer 0
