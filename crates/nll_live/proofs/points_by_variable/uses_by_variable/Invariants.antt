use Rattle.std.proofs.Common.{length, map}
use Rattle.nll_live.specs.Live.{UsesAt}
use Rattle.nll_live.specs.Gathering.{AreListed}
use Rattle.nll_live.proofs.points_by_variable.uses_by_variable.Given as goal

abbrev pub invariant-loop-point : goal.invariant-loop-point
invariant-loop-point l =
    AreListed (length l.body.variables) (UsesAt l.body) l.point (map (λ list. list.items) l.lists.items)
