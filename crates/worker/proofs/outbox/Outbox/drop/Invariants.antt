use Rattle.std.proofs.Common.{vec_len}
use Rattle.worker.proofs.outbox.Outbox.drop.Given as goal

abbrev pub decreases-loop-sender : goal.decreases-loop-sender
decreases-loop-sender g l = vec_len l.senders
