use Rattle.std.proofs.Common.{◌≡◌, false, drop}
use Rattle.nll_owner.specs.Keeping.{OwnerGrows}
use Rattle.nll_owner.specs.Following.{IsLinkFollowed, IsLeft, link_shape}
use Rattle.nll_owner.specs.RegionRuns.{IsToldByRuns}
use Rattle.nll_owner.proofs.link.advance.Given as goal

-- What the runs from the number on tell is due.
abbrev pub invariant-loop-number : goal.invariant-loop-number
invariant-loop-number l = record {
  grows : OwnerGrows l.fn.knowledge l.knowledge;
  same : link_shape l.link ≡ link_shape l.fn.link;
  awake : l.link.rests ≡ false;
  followed : IsLinkFollowed l.knowledge l.due.region
      (IsLeft l.knowledge l.due.place (IsToldByRuns (drop l.number l.due.runs.now)) l.due.region) l.link;
}
