use Rattle.std.proofs.Common.{◌+◌, [], false, ap, sym, arith}
use Rattle.crossbeam_queue.specs.Passes.{view, ruled_capacity}
use Rattle.ledger.specs.Lock.{state_of}
use Rattle.ledger.specs.declared.lock_rule.Known.{Known}
use Rattle.ledger.proofs.LockLemmas.{gives_raised}
use Rattle.ledger.proofs.lock.begin.Goals as goal

pub give-requires-clause-rule : goal.give-requires-clause-rule
give-requires-clause-rule g c =
    let f = c.requires.first in
    let b = ap (λ (y : Known). y.held.balance) f in
    let o = ap (λ (y : Known). y.figures.owed) f in
    let p = ap (λ (y : Known). y.figures.parts) f in
    gives_raised (ruled_capacity c.args.lock.now) c.args.pass.now.id c.args.owners (view c.args.pass.now)
    (state_of (4611686018427387904 + c.args.owners) false) []
    (ap (λ (y : Known). y.holds) f) (omega (arith, b)) (sym (ap (λ (y : Known). y.held.flag) f))
    (omega (arith, p)) (ap (λ (y : Known). y.figures.quiets) f) (omega (arith, o, c.ranges.owners.fits))
