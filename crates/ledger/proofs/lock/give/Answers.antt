use Rattle.std.proofs.Common.{◌≡◌, ℕ, sym, subst}
use Rattle.crossbeam_queue.specs.Fifo.{Pushes}
use Rattle.crossbeam_queue.specs.Passes.{view, ruled_capacity}
use Rattle.ledger.specs.declared.lock_rule.State.{State}
use Rattle.ledger.specs.declared.lock_rule.Known.{Known}
use Rattle.ledger.specs.Lock.{IsHeldByOne, released}
use Rattle.ledger.proofs.lock.give.Goals as goal

pub try_push_as-requires-clause-rule : goal.try_push_as-requires-clause-rule
try_push_as-requires-clause-rule g c =
    let v = c.loop.invariant in let there : Known × (State × ℕ) =
    (view c.args.pass.now, (c.args.state, c.args.pass.now.id)) in
    subst (λ (y : Known × (State × ℕ)). Pushes IsHeldByOne (ruled_capacity c.args.lock.now) y.1.1 y.0 y.1.0
    (λ w. w ≡ released y.0 (g.D.Deed.done y.0.figures y.0.held y.1.0))) {x = there}
    (λ i. (sym v.3 i, (sym v.4 i, sym v.5 i))) c.requires.rule
