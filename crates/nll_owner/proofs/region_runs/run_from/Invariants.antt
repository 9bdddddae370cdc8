use Rattle.std.proofs.Common.{◌-◌, length}
use Rattle.nll_owner.specs.Logs.{IsRunOfLog}
use Rattle.nll_owner.proofs.region_runs.run_from.Given as goal

abbrev pub invariant-loop-end : goal.invariant-loop-end
invariant-loop-end l = IsRunOfLog l.growths l.place l.end l.region (record { first = l.first; last = l.last })

abbrev pub decreases-loop-end : goal.decreases-loop-end
decreases-loop-end l = length l.growths - l.end
