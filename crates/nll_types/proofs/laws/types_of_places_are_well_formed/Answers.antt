use Rattle.nll_types.proofs.WellFormedLemmas.{place_good}
use Rattle.nll_types.proofs.laws.types_of_places_are_well_formed.Goals as goal

pub returns : goal.returns
returns c = place_good
