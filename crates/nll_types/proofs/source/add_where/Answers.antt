use Rattle.std.proofs.Common.{◌∙◌, sym}
use Rattle.std.proofs.lemmas.Bool.{false≢true}
use Rattle.nll_types.proofs.DropLemmas.{adds_nothing, adds_as}
use Rattle.nll_types.proofs.source.add_where.Goals as goal

pub returns-in_ok-add : goal.returns-in_ok-add
returns-in_ok-add c =
    λ all. adds_as all _ _ _ _ (λ rs ts r h. (c.if-wanted.true, h)) (λ rs ts r h. h.1) (c.in_ok-add.ensures all)

pub returns-else-wanted : goal.returns-else-wanted
returns-else-wanted c = λ all. adds_nothing all _ _ (λ rs ts r h. false≢true (sym c.if-wanted.false ∙ h.0))
