use Rattle.nll_answer.proofs.ReplayLemmas.{only_least}
use Rattle.nll_answer.proofs.replay_laws.replay_says_only_least.Goals as goal

pub returns : goal.returns
returns c = only_least
