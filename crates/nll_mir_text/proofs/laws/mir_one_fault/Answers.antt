use Rattle.nll_mir_text.proofs.LawLemmas.{one_fault_lem}
use Rattle.nll_mir_text.proofs.laws.mir_one_fault.Goals as goal

pub returns : goal.returns
returns c = one_fault_lem
