use Rattle.std.proofs.Common.{List, ℕ, ◌++◌, ap, sym, ◌∙◌}
use Rattle.std.proofs.lemmas.Result.{on_ok_weaker}
use Rattle.nll_types.specs.Rows.{tree_at}
use Rattle.nll_body.specs.Effects.{variables_used}
use Rattle.nll_body.specs.Flat.{statement_in}
use Rattle.nll_body.proofs.MapLemmas.{same_used}
use Rattle.nll_body.proofs.KeptLemmas.{meant_there}
use Rattle.nll_body.proofs.body.Body.uses.Goals as goal

pub returns-clause-ok : goal.returns-clause-ok
returns-clause-ok c = on_ok_weaker c.uses.result (λ told i there.
    told ∙ ap (λ (xs : List ℕ). c.args.used.now.items ++ xs)
    (sym (same_used (λ r. r) (tree_at c.self.inside.types.table.shapes c.self.inside.types.regions.items)
    (statement_in c.self.inside.points c.at.result.now))
    ∙ ap variables_used (meant_there c.self.inside.outlives.items c.self.inside.asserts.items c.self.inside.types
    c.self.inside.variables.items c.self.inside.points c.self.inside.labels c.self.inside.graph c.args.self.now
    c.self.view_is c.args.point c.at.result.now c.at.ensures i there))) c.uses.ensures.ok
