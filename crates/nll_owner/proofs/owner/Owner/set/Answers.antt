use Rattle.nll_owner.proofs.HoldingLemmas.{own_told}
use Rattle.nll_owner.proofs.owner.Owner.set.Goals as goal

pub returns-clause-told : goal.returns-clause-told
returns-clause-told c = rw (← c.self.view_is) (λ x.
    let has = c.set.ensures.has c.args.region c.slot.ensures x in
    let told = own_told c.self.inside.knowledge c.args.region x (rw (← c.self.view_is) at c.requires.own) in
    (λ h. told.0 (has.0 h), λ t. has.1 (told.1 t)))
