use Rattle.std.proofs.Common.{◌≡◌, length}
use Rattle.nll_tests.proofs.sets.insert_all.Given as goal

abbrev pub invariant-loop-element : goal.invariant-loop-element
invariant-loop-element g l = length (g.S.ElementSet.flags l.set) ≡ l.len
