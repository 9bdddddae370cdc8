use Rattle.std.proofs.Common.{ap, sym, ◌∙◌}
use Rattle.nll_types.specs.Rows.{tree_at}
use Rattle.nll_body.specs.Effects.{dropped}
use Rattle.nll_body.specs.Flat.{statement_in}
use Rattle.nll_body.proofs.MapLemmas.{same_dropped}
use Rattle.nll_body.proofs.KeptLemmas.{meant_there}
use Rattle.nll_body.proofs.body.Body.drops.Goals as goal

pub returns : goal.returns
returns c = λ i there.
    c.drops.ensures
    ∙ sym (same_dropped (λ r. r) (tree_at c.self.inside.types.table.shapes c.self.inside.types.regions.items)
    (statement_in c.self.inside.points c.at.result.now))
    ∙ ap dropped (meant_there c.self.inside.outlives.items c.self.inside.asserts.items c.self.inside.types
    c.self.inside.variables.items c.self.inside.points c.self.inside.labels c.self.inside.graph c.args.self.now
    c.self.view_is c.args.point c.at.result.now c.at.ensures i there)
