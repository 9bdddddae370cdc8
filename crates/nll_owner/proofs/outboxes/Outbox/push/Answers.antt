use Rattle.nll_owner.proofs.QueueLemmas.{queue_push}
use Rattle.nll_owner.proofs.outboxes.Outbox.push.Goals as goal

pub invariant_of-self-2 : goal.invariant_of-self-2
invariant_of-self-2 c =
    rw c.in_ok-push.ensures.items (queue_push c.self.inside.ranges.items c.self.inside.at c.self.inside.len
    c.self.invariant c.args.places c.requires.proper)
