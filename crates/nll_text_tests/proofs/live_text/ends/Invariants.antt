use Rattle.std.proofs.Common.{◌≡◌, length}
use Rattle.nll_text_tests.proofs.live_text.ends.Given as goal

abbrev pub invariant-loop-point : goal.invariant-loop-point
invariant-loop-point l = length l.ends.items ≡ l.point
