use Rattle.std.proofs.Common.{◌≡◌, length, subst, rules}
use Rattle.worker.specs.Mailboxes.{Alike, Shuts, Both}
use Rattle.worker.proofs.ListLemmas.{alike_ended}
use Rattle.worker.proofs.outbox.Outbox.close_all.Goals as goal

pub returns : goal.returns
returns g c =
    let m = g.M.Mail in let none : length c.loop-sender.senders.items ≡ 0 = search rules in
    subst (λ xs. Alike (Both (Shuts m)) xs c.loop-sender.closed.items) c.from-senders.ensures.0
    (alike_ended (Both (Shuts m)) c.from-senders.result.items c.loop-sender.senders.items _
    none c.loop-sender.invariant.1)
