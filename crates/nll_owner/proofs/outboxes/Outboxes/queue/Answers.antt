use Rattle.std.proofs.Common.{◌-◌, set, subst, sym, ap, ◌∙◌, arith}
use Rattle.std.specs.List.{range_with_len}
use Rattle.std.proofs.lemmas.List.{set-get_or}
use Rattle.std.proofs.lemmas.List.FromFn.{length-range_with_len}
use Rattle.nll_cut.specs.Readers.{is_read}
use Rattle.nll_owner.specs.Outboxes.{AreQueues, outboxes_of}
use Rattle.nll_owner.proofs.OutboxLemmas.{got_short}
use Rattle.nll_owner.proofs.outboxes.Outboxes.queue.Goals as goal
use Rattle.nll_owner.proofs.outboxes.Outboxes.queue.Goals.{After-next_reader}

-- no queue has more places than were looked through, at each turn
short : (c : After-next_reader) → AreQueues
    (outboxes_of c.loop-reader.self-inside.queues.items c.loop-reader.self-inside.place)
short c =
    got_short (λ j. is_read c.args.readers.now j c.args.region)
    (range_with_len c.args.self.now.place (c.args.end - c.args.self.now.place)) c.args.self.now c.loop-reader.from _
    c.loop-reader.invariant.got
    (rw c.self.view_is at c.self.invariant) c.loop-reader.invariant.count
    (omega (
      arith,
      length-range_with_len c.args.self.now.place (c.args.end - c.args.self.now.place),
      c.loop-reader.invariant.place,
      c.requires.place,
    ))

-- a queue that was refused memory is as it was
pub invariant_of-self : goal.invariant_of-self
invariant_of-self c =
    let queues = c.loop-reader.self-inside.queues.items in
    let same = ap (set queues c.in-Some.reader) (c.in_err-push.ensures.err ∙ c.index_mut.ensures.value)
    ∙ set-get_or queues c.in-Some.reader c.index_mut.result.now in
    subst (λ q. AreQueues (outboxes_of q c.loop-reader.self-inside.place)) (sym same)
    (short (goal.at.invariant_of-self c).After-next_reader)

pub invariant_of-self-in_default : goal.invariant_of-self-in_default
invariant_of-self-in_default c = short (goal.at.invariant_of-self-in_default c).After-next_reader
