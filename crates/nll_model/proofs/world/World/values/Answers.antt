use Rattle.nll_model.proofs.world.World.values.Goals as goal

pub values-requires : goal.values-requires
values-requires c =
    let good = c.self.invariant.1 (rw (← c.self.view_is) at c.requires) in
    record { cut = good.cut; sound = good.sound }

pub returns-clause-held : goal.returns-clause-held
returns-clause-held c = rw (← c.self.view_is) c.in_ok-values.ensures.held
