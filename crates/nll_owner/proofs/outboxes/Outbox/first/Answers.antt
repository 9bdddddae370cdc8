use Rattle.std.proofs.Common.{sym, arith}
use Rattle.nll_owner.proofs.QueueLemmas.{first_place}
use Rattle.nll_owner.proofs.outboxes.Outbox.first.Goals as goal

pub returns : goal.returns
returns c =
    rw (← c.self.view_is) (sym (first_place c.self.inside.ranges.items c.self.inside.at c.self.inside.len
    c.self.invariant c.index.result.now (omega (arith, c.if-self-len.false, c.len.ensures)) (sym c.index.ensures)))
