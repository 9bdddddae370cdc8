use Rattle.nll_types.proofs.ShapeLemmas.{behind_agrees}
use Rattle.nll_types.proofs.laws.projections_of_types_and_shapes_agree.Goals as goal

pub returns : goal.returns
returns c = behind_agrees
