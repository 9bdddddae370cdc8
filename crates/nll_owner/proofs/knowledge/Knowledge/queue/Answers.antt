use Rattle.std.proofs.Common.{sym, ap, ◌∙◌, arith}
use Rattle.nll_owner.specs.Owner.{Owner}
use Rattle.nll_owner.proofs.OwnerLemmas.{reader_in}
use Rattle.nll_owner.proofs.knowledge.Knowledge.queue.Goals as goal

-- an owner that reads is one of the cut
pub take_up-requires-clause-owners : goal.take_up-requires-clause-owners
take_up-requires-clause-owners c j r is =
    let low = reader_in _ c.self.invariant.sound j r (sym ((rw (← c.self.view_is) at c.requires.tells) j r) ∙ is) in
    omega (arith, low, c.requires.queued.owners, ap (λ (o : Owner). o.cut.owners) c.self.view_is)
