use Rattle.std.proofs.Common.{◌≡◌, ℕ, ◌<◌, get_or}
use Rattle.nll_sets.specs.Runs.{IsWithin}
use Rattle.nll_core.specs.Search.{IsIn}
use Rattle.nll_owner.specs.declared.region_runs.RegionRun.{RegionRun}
use Rattle.nll_owner.proofs.link.may_rest.Given as goal

abbrev pub invariant-loop-number : goal.invariant-loop-number
invariant-loop-number l =
    (n : ℕ) (k : RegionRun) → n < l.number → get_or l.due.runs.now n k ≡ k → (x : ℕ) → IsWithin k.run x → IsIn l.own x
