use Rattle.std.proofs.Common.{length, map}
use Rattle.nll_live.specs.Live.{DropsAt}
use Rattle.nll_live.specs.Gathering.{AreListed}
use Rattle.nll_live.proofs.points_by_variable.drops_by_variable.Given as goal

abbrev pub invariant-loop-point : goal.invariant-loop-point
invariant-loop-point l =
    AreListed (length l.body.variables) (DropsAt l.body) l.point (map (λ list. list.items) l.lists.items)
