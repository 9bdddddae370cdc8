use Rattle.nll_owner.proofs.RegionRunLemmas.{AreMerged}
use Rattle.nll_owner.proofs.region_runs.merge.Given as goal

abbrev pub invariant-loop-run : goal.invariant-loop-run
invariant-loop-run l = AreMerged l.told l.run-index l.list.items
