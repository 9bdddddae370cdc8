use Rattle.nll_rules.proofs.WholeLemmas.{same_problem}
use Rattle.nll_rules.proofs.laws.one_problem.Goals as goal

pub returns : goal.returns
returns c = same_problem
