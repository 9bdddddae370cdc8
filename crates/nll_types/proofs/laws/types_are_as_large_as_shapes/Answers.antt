use Rattle.nll_types.proofs.ShapeLemmas.{same_nodes}
use Rattle.nll_types.proofs.laws.types_are_as_large_as_shapes.Goals as goal

pub returns : goal.returns
returns c = same_nodes
