use Rattle.nll_core.proofs.PlaceLemmas.{none_before_all, ascend_pushed}
use Rattle.nll_core.proofs.frontiers.places.Places.push.Goals as goal

pub unreachable-requires : goal.unreachable-requires
unreachable-requires c =
    none_before_all c.self.inside.first c.self.inside.others.items (rw (← c.self.view_is, c.in-All.is) at c.requires)

pub invariant_of-self-in-Point : goal.invariant_of-self-in-Point
invariant_of-self-in-Point c =
    ascend_pushed c.self.inside.first c.self.inside.others.items c.push.new.self.items c.in-Point.point
    c.in_ok-push-in-Point.ensures.items c.self.invariant
    (rw (← c.self.view_is, c.in-Point.is) at c.requires)
