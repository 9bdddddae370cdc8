use Rattle.nll_model.proofs.LawfulLemmas.{ranks_are_low}
use Rattle.nll_model.proofs.laws.orderly_states_have_low_ranks.Goals as goal

pub returns : goal.returns
returns c = λ q cut w orderly. ranks_are_low q cut w orderly
