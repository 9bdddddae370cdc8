use Rattle.nll_lists.proofs.CutLawLemmas.{some_meaning_or_fault_lem}
use Rattle.nll_lists.proofs.cut_laws.cut_some_meaning_or_fault.Goals as goal

pub returns : goal.returns
returns c = some_meaning_or_fault_lem
