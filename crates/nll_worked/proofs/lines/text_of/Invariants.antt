use Rattle.std.proofs.Common.{◌≡◌, map, take}
use Rattle.nll_worked.specs.Lines.{with_line_feed}
use Rattle.nll_worked.proofs.lines.text_of.Given as goal

abbrev pub invariant-loop-byte : goal.invariant-loop-byte
invariant-loop-byte l = l.text.items ≡ map with_line_feed (take l.byte-index l.lines)
