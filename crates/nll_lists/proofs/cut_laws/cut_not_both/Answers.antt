use Rattle.nll_lists.proofs.CutLawLemmas.{not_both_lem}
use Rattle.nll_lists.proofs.cut_laws.cut_not_both.Goals as goal

pub returns : goal.returns
returns c = not_both_lem
