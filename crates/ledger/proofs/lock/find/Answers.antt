use Rattle.crossbeam_queue.specs.Passes.{view, ruled_capacity}
use Rattle.ledger.proofs.LockLemmas.{found_after, missed_after}
use Rattle.ledger.proofs.lock.find.Goals as goal

pub give-requires-clause-rule : goal.give-requires-clause-rule
give-requires-clause-rule g c =
    found_after (ruled_capacity c.args.lock.now) c.grab-state.new.pass.id (view c.args.pass.now)
    (view c.grab-state.new.pass) c.grab-state.result c.grab-state.ensures.holds c.if-state.true c.requires.live

pub give-requires-else-state-clause-rule : goal.give-requires-else-state-clause-rule
give-requires-else-state-clause-rule g c =
    missed_after (ruled_capacity c.args.lock.now) c.grab-state.new.pass.id (view c.args.pass.now)
    (view c.grab-state.new.pass) c.grab-state.result c.grab-state.ensures.holds
