use Rattle.std.proofs.Common.{subst, sym, arith}
use Rattle.std.proofs.lemmas.Result.{IfOk-from_err}
use Rattle.nll_owner.specs.Outboxes.{AreQueues, outboxes_of}
use Rattle.nll_owner.proofs.OutboxLemmas.{none_queues}
use Rattle.nll_owner.proofs.outboxes.Outboxes.new.Goals as goal

pub invariant_of-result : goal.invariant_of-result
invariant_of-result c =
    subst (λ queues. AreQueues (outboxes_of queues 0)) (sym c.loop.invariant)
    (none_queues c.loop.counter (omega (arith, c.requires, c.loop.auto.counter-end)))

pub loop-init : goal.loop-init
loop-init c = c.new-queues.ensures.items

pub returns-in_err-push : goal.returns-in_err-push
returns-in_err-push c = IfOk-from_err c.from_residual.result _ c.from_residual.ensures.0
