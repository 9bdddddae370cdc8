use Rattle.std.proofs.Common.{◌≡◌, ◌-◌, length, take}
use Rattle.nll_owner.specs.Owner.{IsSoundOwner, with_growths}
use Rattle.nll_owner.specs.Keeping.{HasAllBeside}
use Rattle.nll_owner.proofs.knowledge.Knowledge.enter_all_received.Given as goal

-- The growths before the place were received.
abbrev pub invariant-loop-place : goal.invariant-loop-place
invariant-loop-place l = record {
  others : l.self ≡ record l.fn.self { received = l.self.received; clock = l.self.clock };
  received : l.self.received ≡ with_growths l.fn.self.received l.from (take l.place l.growths);
  has : HasAllBeside (take l.place l.growths) l.fn.self l.self;
  sound : IsSoundOwner l.self;
}

abbrev pub decreases-loop-place : goal.decreases-loop-place
decreases-loop-place l = length l.growths - l.place
