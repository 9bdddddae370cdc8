use Rattle.nll_facts.proofs.LawLemmas.{one_fault_lem}
use Rattle.nll_facts.proofs.laws.facts_one_fault.Goals as goal

pub returns : goal.returns
returns c = one_fault_lem
