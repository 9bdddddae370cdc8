use Rattle.nll_answer.proofs.LawLemmas.{no_both_lem}
use Rattle.nll_answer.proofs.laws.no_text_has_both.Goals as goal

pub returns : goal.returns
returns c = no_both_lem
