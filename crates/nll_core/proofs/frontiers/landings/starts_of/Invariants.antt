use Rattle.std.proofs.Common.{◌≡◌, ◌≤◌, ◌<◌, ℕ, length, slice_index, slice_index_or}
use Rattle.nll_core.specs.Lines.{IsLandingStart}
use Rattle.nll_core.specs.declared.frontiers.landings.Landing.{Landing}
use Rattle.nll_core.proofs.frontiers.landings.starts_of.Given as goal

abbrev pub invariant-loop-number : goal.invariant-loop-number
invariant-loop-number l = record {
  sized : length l.starts.items ≡ l.number;
  within : l.place ≤ length l.list;
  below : (k : ℕ) (d : Landing) → k < l.place → (slice_index_or l.list k d).to < l.number;
  each : (t : ℕ) → t < l.number → IsLandingStart l.list t (slice_index l.starts.items t);
}
