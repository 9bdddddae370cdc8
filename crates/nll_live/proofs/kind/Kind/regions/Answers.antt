use Rattle.nll_live.proofs.kind.Kind.regions.Goals as goal

pub returns-in-Drop : goal.returns-in-Drop
returns-in-Drop c = rw c.in-Drop.is c.var_drop_regions.ensures.each
