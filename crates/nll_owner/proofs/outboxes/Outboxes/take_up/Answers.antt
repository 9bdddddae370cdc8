use Rattle.std.proofs.Common.{sym, ap, ◌∙◌, arith, length}
use Rattle.std.specs.Prelude.{slice_get}
use Rattle.nll_owner.specs.Outboxes.{Outboxes}
use Rattle.nll_owner.proofs.OutboxLemmas.{looked_through}
use Rattle.nll_owner.proofs.outboxes.Outboxes.take_up.Goals as goal

pub loop-self-preserved : goal.loop-self-preserved
loop-self-preserved c = record {
  within = omega (arith, c.queue.ensures.place, c.region_end-end.ensures.within);
  count = c.queue.ensures.count ∙ c.loop-self.invariant.count;
  queued =
      λ o log tells q. looked_through o c.args.readers.now tells c.loop-self.self c.queue.new.self
      (c.loop-self.invariant.queued o log tells q) c.region_end-end.result _
      (omega (arith, c.region_end-end.ensures.above, ap (λ (b : Outboxes). b.place) c.self.view_is))
      (omega (arith, c.region_end-end.ensures.within, ap length log))
      (λ k g from to at. c.region_end-end.ensures.same k g
      (omega (arith, from, ap (λ (b : Outboxes). b.place) c.self.view_is)) to
      (sym (ap (λ xs. slice_get xs k) log) ∙ at))
      c.queue.ensures.count c.queue.ensures.place c.in_ok-queue.ensures.got;
}
