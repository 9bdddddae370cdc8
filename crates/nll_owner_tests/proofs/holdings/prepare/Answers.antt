use Rattle.nll_owner_tests.proofs.holdings.prepare.Goals as goal

pub receive_all-requires-clause-passes : goal.receive_all-requires-clause-passes
receive_all-requires-clause-passes c = c.passes_all.ensures.0 c.if-passes_all.true
