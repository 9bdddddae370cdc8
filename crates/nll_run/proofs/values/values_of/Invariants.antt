use Rattle.std.proofs.Common.{◌≤◌, vec_capacity}
use Rattle.nll_run.proofs.TakingLemmas.{AreTaken}
use Rattle.nll_run.proofs.values.values_of.Given as goal

abbrev pub invariant-loop-number : goal.invariant-loop-number
invariant-loop-number l =
    (l.regions ≤ vec_capacity l.sets)
    × AreTaken l.cut l.number l.fn.holdings.items l.holdings.items l.sets.items
