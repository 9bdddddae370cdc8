use Rattle.nll_format.specs.Parts as parts
use Rattle.nll_format.proofs.PartLemmas.{no_region_first, spells_more, spells_rest}
use Rattle.nll_format.proofs.arguments.two_regions.Goals as goal

pub returns-in_err-first : goal.returns-in_err-first
returns-in_err-first c = rw c.from_residual.ensures (λ n h. no_region_first _ n.0 _ c.in_err-first.ensures.begins h)

pub returns-in_err-second : goal.returns-in_err-second
returns-in_err-second c = rw c.from_residual-in_err-second.ensures
    (λ n h. c.in_err-second.ensures n.1 (spells_rest _ _ _ _ _ c.in_ok-first.ensures.begins.joined h).1)

pub returns : goal.returns
returns c = spells_more _ _ (parts.region _) _ c.in_ok-first.ensures.begins.joined tt c.in_ok-second.ensures
