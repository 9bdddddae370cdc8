use Rattle.std.proofs.Common.{◌≡◌, ◌<◌, ℕ, true, slice_index}
use Rattle.nll_sets.specs.ElementSet.{flag}
use Rattle.nll_text_tests.proofs.live_rounds.is_any.Given as goal

abbrev pub invariant-loop-point : goal.invariant-loop-point
invariant-loop-point l = (k : ℕ) → k < l.point-index → flag l.flags (slice_index l.points k) ≡ true → ⊥
