use Rattle.std.proofs.Common.{◌-◌, ◌≤◌, refl, arith}
use Rattle.crossbeam_queue.specs.Passes.{view, ruled_capacity}
use Rattle.ledger.specs.Lock.{state_of}
use Rattle.ledger.proofs.LockLemmas.{lowered_after}
use Rattle.ledger.proofs.lock.lower.Goals as goal

pub give-requires-clause-rule : goal.give-requires-clause-rule
give-requires-clause-rule g c =
    let le : c.args.amount ≤ c.grab-state.result.balance =
    omega (arith, c.requires.few, c.grab-state.ensures.bounds.0) in
    lowered_after (ruled_capacity c.args.lock.now) c.grab-state.new.pass.id (view c.args.pass.now)
    (view c.grab-state.new.pass) c.grab-state.result c.grab-state.ensures.holds c.args.amount
    (state_of (c.grab-state.result.balance - c.args.amount) c.grab-state.result.flag) refl le refl
    c.requires.live.0
    c.requires.live.1 c.requires.few
