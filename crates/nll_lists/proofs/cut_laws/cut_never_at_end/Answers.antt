use Rattle.nll_lists.proofs.CutLawLemmas.{never_at_end_lem}
use Rattle.nll_lists.proofs.cut_laws.cut_never_at_end.Goals as goal

pub returns : goal.returns
returns c = never_at_end_lem
