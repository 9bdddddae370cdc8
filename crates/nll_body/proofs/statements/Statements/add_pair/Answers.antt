use Rattle.nll_body.specs.contracts.statements.Statements.{the_view}
use Rattle.nll_body.proofs.AddedLemmas.{grows_pairs}
use Rattle.nll_body.proofs.statements.Statements.add_pair.Goals as goal

pub returns-clause-grows : goal.returns-clause-grows
returns-clause-grows c =
    rw (c.in_ok-push.ensures.items, ← c.self.view_is) (grows_pairs (the_view c.self.inside) _)
