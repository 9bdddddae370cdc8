use Rattle.std.proofs.Common.{◌∙◌, ap, sym, List, ℕ}
use Rattle.std.specs.List.{list_all}
use Rattle.nll_types.specs.Shapes.{is_small_shape}
use Rattle.nll_types.specs.Table.{shape_in, shape_over, shapes_in}
use Rattle.nll_mir_text.proofs.ShapeLemmas.{parts_small}
use Rattle.nll_mir_text.proofs.fields.has_small_parts.Goals as goal

pub returns-in-Tuple : goal.returns-in-Tuple
returns-in-Tuple c = λ ts h.
    let shapes = c.args.shapes.now in
    let same = ap (shape_over (shapes_in shapes)) (sym c.in-Tuple.is) ∙ (sym c.node.ensures.at ∙ h) in
    c.are_small.ensures
    ∙ (ap (λ (ks : List ℕ). list_all (λ k. is_small_shape (shape_in shapes k)) ks) c.as_slice.ensures.value
    ∙ parts_small shapes _ ts same)
