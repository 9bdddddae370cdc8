use Rattle.nll_lists.proofs.CutLawLemmas.{one_fault_lem}
use Rattle.nll_lists.proofs.cut_laws.cut_one_fault.Goals as goal

pub returns : goal.returns
returns c = one_fault_lem
