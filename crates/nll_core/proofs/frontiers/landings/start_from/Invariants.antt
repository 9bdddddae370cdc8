use Rattle.std.proofs.Common.{◌≤◌, ◌<◌, ◌-◌, ℕ, length, slice_index_or}
use Rattle.nll_core.specs.declared.frontiers.landings.Landing.{Landing}
use Rattle.nll_core.proofs.frontiers.landings.start_from.Given as goal

abbrev pub invariant-loop-place : goal.invariant-loop-place
invariant-loop-place l = record {
  within : l.place ≤ length l.list;
  below : (k : ℕ) (d : Landing) → k < l.place → (slice_index_or l.list k d).to < l.number;
}

abbrev pub decreases-loop-place : goal.decreases-loop-place
decreases-loop-place l = length l.list - l.place
