use Rattle.std.proofs.Common.{◌≡◌, ℕ, ◌<◌, get_or}
use Rattle.nll_core.specs.Frontiers.{IsIdle}
use Rattle.nll_owner.specs.declared.region_runs.RegionRun.{RegionRun}
use Rattle.nll_owner.proofs.link.is_idle.Given as goal

abbrev pub invariant-loop-number : goal.invariant-loop-number
invariant-loop-number l =
    (n : ℕ) (k : RegionRun) → n < l.number → get_or l.due.runs.now n k ≡ k
    → IsIdle l.link.frontier.starts k.run l.link.frontier.reached
