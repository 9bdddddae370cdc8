use Rattle.nll_lists.proofs.CutLawLemmas.{one_meaning_lem}
use Rattle.nll_lists.proofs.cut_laws.cut_one_meaning.Goals as goal

pub returns : goal.returns
returns c = one_meaning_lem
