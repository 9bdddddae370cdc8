use Rattle.std.proofs.Common.{◌≡◌, ℕ, ◌<◌, Contains, slice_index}
use Rattle.nll_core.specs.Values.{IsHeld}
use Rattle.nll_core.specs.Growing.{Gains, Tells}
use Rattle.nll_tests.proofs.rounds.insert_all.Given as goal

abbrev pub invariant-loop-element : goal.invariant-loop-element
invariant-loop-element l = record {
  gains : Gains (λ r e. (r ≡ l.region) × Contains l.found e) l.fn.values l.values;
  covers : (k : ℕ) → k < l.element-index → IsHeld l.values l.region (slice_index l.found k);
  tells : Tells l.changed l.fn.values l.values;
}
