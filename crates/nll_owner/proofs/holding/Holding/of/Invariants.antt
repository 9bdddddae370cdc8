use Rattle.nll_owner.proofs.HoldingLemmas.{KeepsOwn}
use Rattle.nll_owner.proofs.holding.Holding.of.Given as goal

abbrev pub invariant-loop-slot : goal.invariant-loop-slot
invariant-loop-slot l = KeepsOwn l.cut l.me l.slots l.fn.values l.values
