use Rattle.std.proofs.Common.{◌≡◌, length}
use Rattle.nll_tests.proofs.sets.write_inserted.Given as goal

abbrev pub invariant-loop-element : goal.invariant-loop-element
invariant-loop-element l = length l.set ≡ 10
