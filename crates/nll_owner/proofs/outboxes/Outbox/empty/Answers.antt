use Rattle.nll_owner.proofs.QueueLemmas.{queue_none}
use Rattle.nll_owner.proofs.outboxes.Outbox.empty.Goals as goal

pub invariant_of-result : goal.invariant_of-result
invariant_of-result c = rw c.new.ensures.items queue_none
