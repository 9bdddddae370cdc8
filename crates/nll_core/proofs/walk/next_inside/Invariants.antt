use Rattle.std.proofs.Common.{◌-◌, ◌≤◌, length}
use Rattle.nll_core.specs.Walking.{NoneInside}
use Rattle.nll_core.proofs.walk.next_inside.Given as goal

abbrev pub invariant-loop-place : goal.invariant-loop-place
invariant-loop-place l = (l.from ≤ l.place) × (l.place ≤ length l.pair) × NoneInside l.sub l.pair l.from l.place

abbrev pub decreases-loop-place : goal.decreases-loop-place
decreases-loop-place l = length l.pair - l.place
