use Rattle.nll_format.proofs.PartLemmas.{no_number_first, spells_more, spells_rest}
use Rattle.nll_format.proofs.arguments.number.Goals as goal

pub returns-in_err-point : goal.returns-in_err-point
returns-in_err-point c = rw c.from_residual.ensures (λ n h. no_number_first _ n _ c.in_err-point.ensures.begins h)

pub returns-in_err-nothing : goal.returns-in_err-nothing
returns-in_err-nothing c = rw c.from_residual-in_err-nothing.ensures
    (λ n h. c.in_err-nothing.ensures tt (spells_rest _ _ _ _ _ c.in_ok-point.ensures.begins.joined h).1)

pub returns : goal.returns
returns c =
    spells_more _ _ _ _ c.in_ok-point.ensures.begins.joined c.in_ok-point.ensures.begins.allowed c.in_ok-nothing.ensures
