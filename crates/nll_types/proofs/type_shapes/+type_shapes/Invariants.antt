use Rattle.std.proofs.Common.{◌≡◌, ◌≤◌, length, vec_len, vec_capacity}
use Rattle.nll_types.proofs.ShapingLemmas.{IsShaping}
use Rattle.nll_types.proofs.type_shapes.+type_shapes.Given as goal

abbrev pub invariant-shape_all-loop-part : goal.invariant-shape_all-loop-part
invariant-shape_all-loop-part l = IsShaping l.fn.shapes l.shapes l.arguments l.parts l.made.items l.part-index
    × (vec_len l.made ≡ l.part-index) × (length l.parts ≤ vec_capacity l.made)
