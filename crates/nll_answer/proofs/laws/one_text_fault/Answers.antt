use Rattle.nll_answer.proofs.LawLemmas.{one_fault_lem}
use Rattle.nll_answer.proofs.laws.one_text_fault.Goals as goal

pub returns : goal.returns
returns c = one_fault_lem
