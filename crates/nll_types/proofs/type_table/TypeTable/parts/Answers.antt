use Rattle.std.proofs.Common.{◌∙◌, ap, Some}
use Rattle.nll_types.specs.Declarations.{structs_of}
use Rattle.nll_types.specs.Table.{shapes_in, shape_over}
use Rattle.nll_types.proofs.ProjectLemmas.{count_tuple}
use Rattle.nll_types.proofs.type_table.TypeTable.parts.Goals as goal

pub returns-in-Tuple : goal.returns-in-Tuple
returns-in-Tuple c =
    let known = shapes_in c.args.self.now.shapes in
    let parts = c.in-Tuple.parts in
    let at' = rw c.shapes.ensures at c.node.ensures.at in
    λ t e.
    ap Some (c.len.ensures ∙ parts.ok.0)
    ∙ count_tuple (structs_of c.args.self.now.structs) known parts t (e ∙ at' ∙ ap (shape_over known) c.in-Tuple.is)
