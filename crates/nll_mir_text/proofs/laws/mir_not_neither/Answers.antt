use Rattle.nll_mir_text.proofs.LawLemmas.{not_neither_lem}
use Rattle.nll_mir_text.proofs.laws.mir_not_neither.Goals as goal

pub returns : goal.returns
returns c = not_neither_lem
