use Rattle.std.proofs.Common.{true, refl}
use Rattle.crossbeam_queue.specs.Passes.{view, ruled_capacity}
use Rattle.ledger.specs.Lock.{state_of}
use Rattle.ledger.proofs.LockLemmas.{set_after}
use Rattle.ledger.proofs.lock.set.Goals as goal

pub give-requires-clause-rule : goal.give-requires-clause-rule
give-requires-clause-rule g c =
    set_after (ruled_capacity c.args.lock.now) c.grab-state.new.pass.id (view c.args.pass.now)
    (view c.grab-state.new.pass) c.grab-state.result c.grab-state.ensures.holds
    (state_of c.grab-state.result.balance true) refl refl c.requires.live
