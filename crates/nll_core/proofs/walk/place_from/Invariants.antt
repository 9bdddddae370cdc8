use Rattle.std.proofs.Common.{◌-◌, ℕ, ◌≤◌, ◌<◌, length}
use Rattle.nll_core.specs.Walking.{constraint_at, point_of}
use Rattle.nll_core.proofs.walk.place_from.Given as goal

abbrev pub invariant-loop-low : goal.invariant-loop-low
invariant-loop-low l =
    (l.from ≤ l.low) × (l.low ≤ l.high) × (l.high ≤ length l.pair)
    × ((k : ℕ) → l.from ≤ k → k < l.low → point_of (constraint_at l.pair k) < l.least)

abbrev pub decreases-loop-low : goal.decreases-loop-low
decreases-loop-low l = l.high - l.low
