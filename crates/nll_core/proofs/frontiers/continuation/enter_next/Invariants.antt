use Rattle.std.proofs.Common.{◌-◌}
use Rattle.nll_core.proofs.ResumeLemmas.{NextOn}
use Rattle.nll_core.proofs.frontiers.continuation.enter_next.Given as goal

abbrev pub invariant-loop-last : goal.invariant-loop-last
invariant-loop-last l = NextOn l.lines l.seen l.part l.fn.reached l.reached l.fn.found.items l.found.items l.from

abbrev pub decreases-loop-last : goal.decreases-loop-last
decreases-loop-last l = l.part.last - l.from
