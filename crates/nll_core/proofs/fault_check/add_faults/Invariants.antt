use Rattle.nll_core.specs.Outliving.{FindsUpTo}
use Rattle.nll_core.proofs.fault_check.add_faults.Given as goal

abbrev pub invariant-loop-shorter : goal.invariant-loop-shorter
invariant-loop-shorter l = FindsUpTo l.problem l.values l.faults.items l.longer l.shorter
