use Rattle.std.proofs.Common.{◌≡◌, ℕ, ◌*◌, ◌≤◌, ◌<◌, false}
use Rattle.nll_sets.specs.BitSet.{word_flag}
use Rattle.nll_sets.proofs.bit_set.next_place.Given as goal

abbrev pub invariant-loop-later : goal.invariant-loop-later
invariant-loop-later l = (x : ℕ) → l.from ≤ x → x < 64 * l.later → word_flag l.words x ≡ false
