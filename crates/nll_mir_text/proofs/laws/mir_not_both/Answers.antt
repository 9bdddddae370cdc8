use Rattle.nll_mir_text.proofs.LawLemmas.{not_both_lem}
use Rattle.nll_mir_text.proofs.laws.mir_not_both.Goals as goal

pub returns : goal.returns
returns c = not_both_lem
