use Rattle.nll_owner.proofs.holding.Holding.of.Goals as goal

pub owner_of-requires : goal.owner_of-requires
owner_of-requires c =
    c.requires.regions c.region.result (c.loop-slot.slot, c.region.ensures.0, c.region.ensures.1)
