use Rattle.std.proofs.Common.{◌∙◌, ap, subst}
use Rattle.std.proofs.lemmas.Option.{get_or_from_slice_get}
use Rattle.nll_types.specs.Table.{IsOver, shape_over, shapes_in}
use Rattle.nll_types.specs.declared.node.Node.TheVariants.{Int}
use Rattle.nll_types.proofs.TableLemmas.{at_node}
use Rattle.nll_types.proofs.shapes.Shapes.node.Goals as goal

pub returns-clause-at : goal.returns-clause-at
returns-clause-at c =
    let within = rw (← c.self.view_is) at c.requires in
    let keys = c.self.inside.nodes.keys in
    rw (← c.self.view_is) (at_node keys c.self.invariant.table c.args.shape within
    ∙ ap (shape_over (shapes_in keys)) (get_or_from_slice_get keys c.args.shape c.index.result.now Int
    c.index.ensures))

pub returns-clause-over : goal.returns-clause-over
returns-clause-over c =
    let within = rw (← c.self.view_is) at c.requires in
    let keys = c.self.inside.nodes.keys in
    subst (IsOver c.args.shape) (get_or_from_slice_get keys c.args.shape c.index.result.now Int c.index.ensures)
    (c.self.invariant.table c.args.shape within)
