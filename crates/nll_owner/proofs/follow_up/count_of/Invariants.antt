use Rattle.std.proofs.Common.{◌≡◌, ℕ, ◌-◌, ◌<◌, ◌≤◌, length, get_or}
use Rattle.nll_owner.specs.declared.region_runs.RegionRun.{RegionRun}
use Rattle.nll_owner.proofs.follow_up.count_of.Given as goal

abbrev pub invariant-loop-count : goal.invariant-loop-count
invariant-loop-count l = record {
  some : 0 < l.count;
  bound : l.count ≤ length l.runs;
  same : (n : ℕ) (k : RegionRun) → n < l.count → get_or l.runs n k ≡ k → k.region ≡ l.region;
}

abbrev pub decreases-loop-count : goal.decreases-loop-count
decreases-loop-count l = length l.runs - l.count
