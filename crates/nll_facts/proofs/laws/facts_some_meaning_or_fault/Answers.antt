use Rattle.nll_facts.proofs.LawLemmas.{some_meaning_or_fault_lem}
use Rattle.nll_facts.proofs.laws.facts_some_meaning_or_fault.Goals as goal

pub returns : goal.returns
returns c = some_meaning_or_fault_lem
