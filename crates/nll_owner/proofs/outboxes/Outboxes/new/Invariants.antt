use Rattle.std.proofs.Common.{◌≡◌, [], replicate}
use Rattle.nll_owner.proofs.outboxes.Outboxes.new.Given as goal

abbrev pub invariant-loop : goal.invariant-loop
invariant-loop l = l.queues.items ≡ replicate l.counter []
