use Rattle.std.proofs.Common.{◌+◌, ◌-◌, length}
use Rattle.nll_core.specs.Search.{missing}
use Rattle.nll_core.proofs.WalkingLemmas.{Spreading}
use Rattle.nll_core.proofs.stretches.spread.Given as goal

abbrev pub invariant-loop-place : goal.invariant-loop-place
invariant-loop-place l = Spreading l.lines l.sub l.fn.reached l.reached l.fn.list.items l.list.items l.place l.ended

abbrev pub decreases-loop-place : goal.decreases-loop-place
decreases-loop-place l = missing l.reached + length l.list.items - l.place
