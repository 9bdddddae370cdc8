use Rattle.nll_types.specs.Table.{shape_in}
use Rattle.nll_body.proofs.MeetingLemmas.{same_reference}
use Rattle.nll_body.proofs.found.is_reference.Goals as goal

pub returns-in-Reference : goal.returns-in-Reference
returns-in-Reference c =
    same_reference (shape_in c.args.shapes.now c.args.shape) (shape_in c.args.shapes.now c.in-Reference.behind)
    (shape_in c.args.shapes.now c.args.target) c.args.mutable c.in-Reference.marked c.is_same-same.result
    (rw c.in-Reference.is at c.node.ensures.at) c.is_same-same.ensures
