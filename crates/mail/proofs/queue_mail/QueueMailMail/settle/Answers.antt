use Rattle.std.proofs.Common.{Global, length, refl, sym, ap, ◌∙◌, subst}
use Rattle.crossbeam_queue.specs.SegTies.{SegId, IsSegPassOf}
use Rattle.mail.specs.declared.queue_mail.Known.{Known}
use Rattle.mail.proofs.OrderLemmas.{joins, totals}
use Rattle.mail.proofs.queue_mail.QueueMailMail.settle.Goals as goal

pub absorb-requires-clause-queue : goal.absorb-requires-clause-queue
absorb-requires-clause-queue g c =
    let here = c.args.closed in
    let there = c.args.receiver in
    rw c.deref.ensures (here.fits, subst (λ (q : SegId Global). IsSegPassOf q there.pass) c.requires there.fits)

pub absorb-requires-clause-rule : goal.absorb-requires-clause-rule
absorb-requires-clause-rule g c =
    let here = c.args.closed in
    let there = c.args.receiver in
    joins here.pass.id here.pass.me.view.client there.pass.id there.pass.me.view.client
    (ap (λ (end : Known _). end.posts) here.knows) (ap (λ (end : Known _). end.takes) there.knows)

pub len_as-requires-clause-queue : goal.len_as-requires-clause-queue
len_as-requires-clause-queue g c =
    let same = c.deref.ensures ∙ sym c.deref-2.ensures in
    rw same at c.absorb.ensures.queue.0

pub len_as-requires-clause-rule : goal.len_as-requires-clause-rule
len_as-requires-clause-rule g c =
    let both = c.absorb.ensures.rule in
    totals c.absorb.new.pass.id c.absorb.new.pass.me.view.client (ap (λ (end : Known _). end.posts) both)
    (ap (λ (end : Known _). end.takes) both)

pub invariant_of-result : goal.invariant_of-result
invariant_of-result g c =
    let both = c.len_as.ensures.queue.2 ∙ c.absorb.ensures.rule in
    record { counted = c.args.receiver.counted ∙ sym (ap (λ (end : Known _). length end.received) both) }

pub returns-clause-ends : goal.returns-clause-ends
returns-clause-ends g c = refl

pub returns-clause-sent : goal.returns-clause-sent
returns-clause-sent g c = ap (λ (end : Known _). end.sent) (c.len_as.ensures.queue.2 ∙ c.absorb.ensures.rule)

pub returns-clause-received : goal.returns-clause-received
returns-clause-received g c = ap (λ (end : Known _). end.received) (c.len_as.ensures.queue.2 ∙ c.absorb.ensures.rule)
