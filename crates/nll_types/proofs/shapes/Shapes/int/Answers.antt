use Rattle.std.proofs.Common.{◌≡◌, ◌∙◌, ap, sym}
use Rattle.std.proofs.lemmas.Bool.{false≢true}
use Rattle.nll_types.specs.Table.{shape_over, shapes_in}
use Rattle.nll_types.specs.declared.node.Node.TheVariants.{Int}
use Rattle.nll_types.proofs.shapes.Shapes.int.Goals.{in-Int, in_default}
use Rattle.nll_types.proofs.shapes.Shapes.int.Goals as goal

pub returns-then-matches-clause-at : goal.returns-then-matches-clause-at
returns-then-matches-clause-at c =
    let known : c.node.result.now ≡ Int = elim c.match-matches.branch [
      | in-Int w ↦ w.in-Int.is
      | in_default w ↦ absurd (false≢true (sym w.matches-is ∙ c.if-matches.true))
    ] in
    c.node.ensures.at ∙ ap (shape_over (shapes_in c.args.self.now)) known
