use Rattle.nll_owner.proofs.outboxes.region_end.Goals as goal

pub returns-then-ne-clause-same : goal.returns-then-ne-clause-same
returns-then-ne-clause-same c = c.loop-end.invariant
