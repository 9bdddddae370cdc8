use Rattle.nll_body.proofs.edges.add_edge.Goals as goal

pub returns-clause-ok : goal.returns-clause-ok
returns-clause-ok c = c.next.ensures.ok

pub returns-clause-others : goal.returns-clause-others
returns-clause-others c = c.next.ensures.others
