use Rattle.nll_types.proofs.CopyLemmas.{copied_shapes, copied_table}
use Rattle.nll_types.proofs.shapes.Shapes.copy.Goals as goal

pub invariant_of-result : goal.invariant_of-result
invariant_of-result c =
    rw (c.in_ok-sizes.ensures.items, c.as_slice.ensures.value)
    (copied_table _ _ c.in_ok-nodes.ensures.cases _ c.self.invariant)

pub returns : goal.returns
returns c = rw (← c.self.view_is) (copied_shapes _ _ c.in_ok-nodes.ensures.cases)
