use Rattle.std.proofs.Common.{◌≡◌, length}
use Rattle.nll_text.specs.Lines.{without_front_blanks}
use Rattle.nll_text.specs.LineTokens.{tokens_in}
use Rattle.nll_text.proofs.bytes.behind_gap.Given as goal

abbrev pub invariant-loop-rest : goal.invariant-loop-rest
invariant-loop-rest l = record {
  cut : without_front_blanks l.rest ≡ without_front_blanks l.line;
  tokens : tokens_in l.rest ≡ tokens_in l.line;
}

abbrev pub decreases-loop-rest : goal.decreases-loop-rest
decreases-loop-rest l = length l.rest
