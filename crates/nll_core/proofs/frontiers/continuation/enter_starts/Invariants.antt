use Rattle.std.proofs.Common.{◌+◌, ◌-◌}
use Rattle.nll_core.proofs.ResumeLemmas.{Beginning}
use Rattle.nll_core.proofs.frontiers.continuation.enter_starts.Given as goal

abbrev pub invariant-loop-start : goal.invariant-loop-start
invariant-loop-start l =
    Beginning l.lines l.seen l.starts l.part.first l.fn.reached l.reached l.fn.found.items l.found.items l.next

abbrev pub decreases-loop-start : goal.decreases-loop-start
decreases-loop-start l = l.part.last + 1 - l.next
