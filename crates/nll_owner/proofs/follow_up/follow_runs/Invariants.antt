use Rattle.std.proofs.Common.{◌-◌, length, map, drop}
use Rattle.nll_owner.specs.Keeping.{OwnerGrows}
use Rattle.nll_owner.specs.Following.{IsFollowing, following_of}
use Rattle.nll_owner.specs.RegionRuns.{IsToldByRuns}
use Rattle.nll_owner.proofs.follow_up.follow_runs.Given as goal

-- What the runs from the place on tell is due.
abbrev pub invariant-loop-next : goal.invariant-loop-next
invariant-loop-next l = record {
  grows : OwnerGrows l.fn.knowledge l.knowledge;
  following : IsFollowing (IsToldByRuns (drop l.next l.runs)) l.knowledge
      (following_of (map (λ row. row.items) l.rows.items) l.place);
}

abbrev pub decreases-loop-next : goal.decreases-loop-next
decreases-loop-next l = length l.runs - l.next
