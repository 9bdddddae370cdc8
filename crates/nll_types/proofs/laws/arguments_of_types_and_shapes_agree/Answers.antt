use Rattle.nll_types.proofs.ShapeLemmas.{shape_of_put_in}
use Rattle.nll_types.proofs.laws.arguments_of_types_and_shapes_agree.Goals as goal

pub returns : goal.returns
returns c = shape_of_put_in
