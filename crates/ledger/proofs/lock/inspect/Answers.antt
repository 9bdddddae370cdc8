use Rattle.crossbeam_queue.specs.Passes.{view, ruled_capacity}
use Rattle.ledger.proofs.LockLemmas.{found_after, quiet_after, stayed_after}
use Rattle.ledger.proofs.lock.inspect.Goals as goal

pub give-requires-clause-rule : goal.give-requires-clause-rule
give-requires-clause-rule g c =
    found_after (ruled_capacity c.args.lock.now) c.grab-state.new.pass.id (view c.args.pass.now)
    (view c.grab-state.new.pass) c.grab-state.result c.grab-state.ensures.holds c.if-state.true c.requires.live

pub give-requires-then-state-eq-NOTHING_OWED-clause-rule : goal.give-requires-then-state-eq-NOTHING_OWED-clause-rule
give-requires-then-state-eq-NOTHING_OWED-clause-rule g c =
    quiet_after (ruled_capacity c.args.lock.now) c.grab-state.new.pass.id (view c.args.pass.now)
    (view c.grab-state.new.pass) c.grab-state.result c.grab-state.ensures.holds c.if-state-eq-NOTHING_OWED.true

pub give-requires-2-clause-rule : goal.give-requires-2-clause-rule
give-requires-2-clause-rule g c =
    stayed_after (ruled_capacity c.args.lock.now) c.grab-state.new.pass.id (view c.args.pass.now)
    (view c.grab-state.new.pass) c.grab-state.result c.grab-state.ensures.holds
