use Rattle.std.proofs.Common.{◌≡◌, ◌<◌, ◌↔◌, ℕ, true, Contains}
use Rattle.nll_sets.specs.ElementSet.{flag}
use Rattle.nll_tests.proofs.rounds.all_of.Given as goal

-- the elements below the number
abbrev pub invariant-loop-number : goal.invariant-loop-number
invariant-loop-number l = (x : ℕ) → Contains l.found.items x ↔ (x < l.number) × (flag l.set x ≡ true)
