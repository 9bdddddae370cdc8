use Rattle.std.proofs.Common.{◌≡◌, ◌+◌, length}
use Rattle.nll_text.specs.Lines.{lines_left}
use Rattle.nll_format.specs.Lines.{AreShort, IsAmidWith}
use Rattle.nll_format.proofs.lines.read_lines.Given as goal

abbrev pub invariant-loop-rest : goal.invariant-loop-rest
invariant-loop-rest g l = record {
  ready : g.R.LineReader.ready l.reader;
  short : AreShort (lines_left l.rest);
  counted : l.number + length (lines_left l.rest) ≡ 1 + length (lines_left l.fn.body);
  read :
      IsAmidWith (g.R.LineReader.format_of l.format) (λ forms. g.R.LineReader.holds l.format forms l.reader)
      (lines_left l.fn.body) (lines_left l.rest) l.number;
}

abbrev pub decreases-loop-rest : goal.decreases-loop-rest
decreases-loop-rest g l = length (lines_left l.rest)
