use Rattle.std.proofs.Common.{◌≡◌, ℕ, ◌<◌, false, get_or}
use Rattle.nll_sets.specs.ElementSet.{flag}
use Rattle.nll_core.proofs.frontiers.element_growth.is_next.Given as goal

abbrev pub invariant-loop-point : goal.invariant-loop-point
invariant-loop-point l = (k : ℕ) → k < l.point-index → flag l.reached (get_or l.point-items k 0) ≡ false
