use Rattle.std.proofs.Common.{◌-◌, length}
use Rattle.nll_core.specs.Frontiers.{ListsNew}
use Rattle.nll_core.proofs.WalkingLemmas.{Filling}
use Rattle.nll_core.proofs.stretches.fill_from.Given as goal

abbrev pub invariant-loop-run : goal.invariant-loop-run
invariant-loop-run l =
    Filling l.sub l.from l.fn.reached l.reached l.next × ListsNew l.fn.reached l.reached l.fn.list.items l.list.items

abbrev pub decreases-loop-run : goal.decreases-loop-run
decreases-loop-run l = length l.sub - l.next
