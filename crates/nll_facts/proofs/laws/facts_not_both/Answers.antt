use Rattle.nll_facts.proofs.LawLemmas.{not_both_lem}
use Rattle.nll_facts.proofs.laws.facts_not_both.Goals as goal

pub returns : goal.returns
returns c = not_both_lem
