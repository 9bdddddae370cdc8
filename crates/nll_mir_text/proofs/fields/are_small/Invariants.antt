use Rattle.std.proofs.Common.{◌≡◌, drop}
use Rattle.std.specs.List.{list_all}
use Rattle.nll_types.specs.Shapes.{is_small_shape}
use Rattle.nll_types.specs.Table.{shape_in}
use Rattle.nll_mir_text.proofs.fields.are_small.Given as goal

abbrev pub invariant-loop-part : goal.invariant-loop-part
invariant-loop-part l =
    list_all (λ k. is_small_shape (shape_in l.shapes k)) (drop l.part-index l.parts)
    ≡ list_all (λ k. is_small_shape (shape_in l.shapes k)) l.parts
