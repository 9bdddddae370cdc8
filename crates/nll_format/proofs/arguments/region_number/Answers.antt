use Rattle.nll_format.specs.Parts as parts
use Rattle.nll_format.proofs.PartLemmas.{no_region_first, spells_more, spells_rest}
use Rattle.nll_format.proofs.arguments.region_number.Goals as goal

pub returns-in_err-name : goal.returns-in_err-name
returns-in_err-name c = rw c.from_residual.ensures (λ n h. no_region_first _ n.0 _ c.in_err-name.ensures.begins h)

pub returns-in_err-point : goal.returns-in_err-point
returns-in_err-point c = rw c.from_residual-in_err-point.ensures
    (λ n h. c.in_err-point.ensures n.1 (spells_rest _ _ _ _ _ c.in_ok-name.ensures.begins.joined h).1)

pub returns : goal.returns
returns c = spells_more _ _ (parts.region _) _ c.in_ok-name.ensures.begins.joined tt c.in_ok-point.ensures
