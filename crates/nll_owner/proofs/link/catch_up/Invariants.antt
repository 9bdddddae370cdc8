use Rattle.std.proofs.Common.{◌≡◌, ◌-◌, false, drop}
use Rattle.nll_owner.specs.Keeping.{OwnerGrows}
use Rattle.nll_owner.specs.Following.{IsLinkFollowed, IsLeft, OfRunOr, link_shape}
use Rattle.nll_owner.proofs.link.catch_up.Given as goal

-- Of the region, what stands at `next` or behind it is due.
abbrev pub invariant-loop-part : goal.invariant-loop-part
invariant-loop-part l = record {
  grows : OwnerGrows l.fn.knowledge l.knowledge;
  same : link_shape l.link ≡ link_shape l.fn.link;
  awake : l.link.rests ≡ false;
  followed : IsLinkFollowed l.knowledge l.due.region
      (IsLeft l.knowledge l.due.place (OfRunOr (drop l.due.count l.due.runs.now) l.due.region l.next 4294967295)
      l.due.region) l.link;
}

abbrev pub decreases-loop-part : goal.decreases-loop-part
decreases-loop-part l = 4294967296 - l.next
