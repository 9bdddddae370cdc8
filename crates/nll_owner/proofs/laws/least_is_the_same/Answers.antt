use Rattle.nll_owner.proofs.RegionLemmas.{same_least}
use Rattle.nll_owner.proofs.laws.least_is_the_same.Goals as goal

pub returns : goal.returns
returns c = same_least
