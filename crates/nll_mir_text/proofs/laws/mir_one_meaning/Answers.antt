use Rattle.nll_mir_text.proofs.LawLemmas.{one_meaning_lem}
use Rattle.nll_mir_text.proofs.laws.mir_one_meaning.Goals as goal

pub returns : goal.returns
returns c = one_meaning_lem
