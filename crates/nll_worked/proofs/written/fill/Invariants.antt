use Rattle.std.proofs.Common.{◌≡◌}
use Rattle.nll_worked.proofs.written.fill.Given as goal

abbrev pub invariant-loop-point : goal.invariant-loop-point
invariant-loop-point l = l.builder ≡ record l.fn.builder { bases = l.builder.bases }
