use Rattle.std.proofs.Common.{◌-◌, ◌+◌, ◌≤◌, length}
use Rattle.nll_core.specs.Worklist.{AreOfOneSup}
use Rattle.nll_core.proofs.satisfaction.pair_end.Given as goal

abbrev pub invariant-loop-low : goal.invariant-loop-low
invariant-loop-low l =
    (l.place + 1 ≤ l.low) × (l.low ≤ l.high) × (l.high ≤ length l.constraints) × AreOfOneSup l.constraints l.place l.low

abbrev pub decreases-loop-low : goal.decreases-loop-low
decreases-loop-low l = l.high - l.low
