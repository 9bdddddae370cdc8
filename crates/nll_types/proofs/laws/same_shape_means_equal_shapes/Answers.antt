use Rattle.nll_types.proofs.SameShapeLemmas.{same_shape_decides}
use Rattle.nll_types.proofs.laws.same_shape_means_equal_shapes.Goals as goal

pub returns : goal.returns
returns c = same_shape_decides
