use Rattle.std.proofs.Common.{subst, Contains, arith}
use Rattle.nll_owner.proofs.OwnerLemmas.{clock_low}
use Rattle.nll_owner.proofs.owner.Owner.log.Goals as goal

pub returns-clause-ranks : goal.returns-clause-ranks
returns-clause-ranks c g at =
    let sound = c.self.invariant.0 in
    let own = sound.own_ranks g (subst (λ xs. Contains xs g) c.entries.ensures.log at) in
    let low = clock_low _ sound in
    omega (arith, own, low)
