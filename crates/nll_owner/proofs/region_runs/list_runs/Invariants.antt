use Rattle.std.proofs.Common.{◌-◌, length}
use Rattle.nll_owner.proofs.RegionRunLemmas.{AreListed}
use Rattle.nll_owner.proofs.region_runs.list_runs.Given as goal

abbrev pub invariant-loop-place : goal.invariant-loop-place
invariant-loop-place l = AreListed l.growths l.place l.list.items

abbrev pub decreases-loop-place : goal.decreases-loop-place
decreases-loop-place l = length l.growths - l.place
