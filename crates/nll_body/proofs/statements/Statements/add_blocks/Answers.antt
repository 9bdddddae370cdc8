use Rattle.nll_body.specs.contracts.statements.Statements.{the_view}
use Rattle.nll_body.proofs.AddedLemmas.{grows_blocks}
use Rattle.nll_body.proofs.statements.Statements.add_blocks.Goals as goal

pub returns-clause-grows : goal.returns-clause-grows
returns-clause-grows c =
    rw (c.in_ok-extend_from_slice.ensures.items, ← c.self.view_is)
    (grows_blocks (the_view c.self.inside) c.args.blocks.now)
