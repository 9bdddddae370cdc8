use Rattle.std.proofs.Common.{ap, ◌∙◌}
use Rattle.crossbeam_queue.specs.Passes.{view}
use Rattle.ledger.specs.declared.lock_rule.Known.{Known}
use Rattle.ledger.proofs.LockLemmas.{grabs}
use Rattle.ledger.proofs.lock.grab.Goals as goal

pub try_pop_as-requires-clause-rule : goal.try_pop_as-requires-clause-rule
try_pop_as-requires-clause-rule g c =
    let v = c.loop.invariant.3 in
    grabs c.loop.pass.id (view c.loop.pass) (ap (λ (h : Known). h.holds) v ∙ c.requires.free)
