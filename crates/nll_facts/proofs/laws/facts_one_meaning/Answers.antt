use Rattle.nll_facts.proofs.LawLemmas.{one_meaning_lem}
use Rattle.nll_facts.proofs.laws.facts_one_meaning.Goals as goal

pub returns : goal.returns
returns c = one_meaning_lem
