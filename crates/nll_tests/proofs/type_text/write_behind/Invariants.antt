use Rattle.std.proofs.Common.{◌<◌, length}
use Rattle.nll_tests.proofs.type_text.write_behind.Given as goal

abbrev pub invariant-loop : goal.invariant-loop
invariant-loop l = l.number < length l.table.shapes
