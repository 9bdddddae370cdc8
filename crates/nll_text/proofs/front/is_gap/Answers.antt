use Rattle.std.proofs.Common.{sym, ◌∙◌}
use Rattle.std.proofs.lemmas.Bool.{eqb-true}
use Rattle.nll_text.proofs.TokenLemmas.{gap_alone, gap_ends}
use Rattle.nll_text.proofs.front.is_gap.Goals as goal

pub returns : goal.returns
returns c = (
  λ is. gap_alone _ (rw c.behind_gap.ensures.cut at (eqb-true _ _ (sym c.is_empty.ensures ∙ is))),
  λ gap. c.is_empty.ensures ∙ rw c.behind_gap.ensures.cut (gap_ends _ gap),
)
