use Rattle.nll_core.proofs.frontiers.frontier.Frontier.add.Goals as goal

pub push-requires : goal.push-requires
push-requires c = rw (← c.self.view_is) at c.requires
