use Rattle.std.proofs.Common.{◌≡◌, ◌≤◌, ◌-◌, length}
use Rattle.nll_owner.specs.Owner.{Owner}
use Rattle.nll_owner.specs.Outboxes.{AreQueued, TellsAs}
use Rattle.nll_owner.proofs.outboxes.Outboxes.take_up.Given as goal

abbrev pub invariant-loop-self : goal.invariant-loop-self
invariant-loop-self l = record {
  within : l.self.place ≤ length l.log;
  count : length l.self.queues ≡ length l.fn.self.queues;
  queued : (o : Owner) → o.log ≡ l.log → TellsAs o l.readers → AreQueued o l.fn.self → AreQueued o l.self;
}

abbrev pub decreases-loop-self : goal.decreases-loop-self
decreases-loop-self l = length l.log - l.self.place
