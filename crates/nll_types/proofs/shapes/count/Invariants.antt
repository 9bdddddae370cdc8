use Rattle.std.proofs.Common.{◌≡◌, ◌+◌, min, slice_index, sum_by, take}
use Rattle.nll_problem.specs.Limits.{most_nodes}
use Rattle.nll_types.proofs.shapes.count.Given as goal

abbrev pub invariant-loop-part : goal.invariant-loop-part
invariant-loop-part l =
    l.all ≡ min (most_nodes + 1) (sum_by (λ p. slice_index l.sizes p) (take l.part-index l.parts) + 1)
