use Rattle.nll_answer.proofs.LawLemmas.{one_meaning_lem}
use Rattle.nll_answer.proofs.laws.one_text_meaning.Goals as goal

pub returns : goal.returns
returns c = one_meaning_lem
