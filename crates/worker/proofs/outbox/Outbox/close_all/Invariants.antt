use Rattle.std.proofs.Common.{◌+◌, ◌≤◌, ◌++◌, List, vec_len, vec_capacity}
use Rattle.std.specs.VecDeque.{deque_len}
use Rattle.worker.specs.Mailboxes.{Alike, Shuts, Both}
use Rattle.worker.proofs.outbox.Outbox.close_all.Given as goal

abbrev pub invariant-loop-sender : goal.invariant-loop-sender
invariant-loop-sender g l =
    let m = g.M.Mail in
    (vec_len l.closed + deque_len l.senders ≤ vec_capacity l.closed)
    × ((more : List _) → Alike (Both (Shuts m)) l.senders.items more
    → Alike (Both (Shuts m)) l.initial.senders.items (l.closed.items ++ more))

abbrev pub decreases-loop-sender : goal.decreases-loop-sender
decreases-loop-sender g l = deque_len l.senders
