use Rattle.nll_answer.proofs.ReplayLemmas.{at_0_least}
use Rattle.nll_answer.proofs.replay_laws.replay_at_0_is_least.Goals as goal

pub returns : goal.returns
returns c = at_0_least
