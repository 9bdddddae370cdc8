use Rattle.nll_mir_grammar.proofs.ListLemmas.{inside_without, inside_open}
use Rattle.nll_mir_grammar.proofs.PartLemmas.{parameters_listable, no_parameters}
use Rattle.nll_mir_grammar.proofs.parameters.parameters_in.Goals as goal

pub returns-in_default-2 : goal.returns-in_default-2
returns-in_default-2 c =
    let none = rw c.in_default-2.is at c.in_ok-parameters.ensures in
    no_parameters _ _ c.in-Some.ensures (inside_without _ _ parameters_listable _ none)

pub returns-in_default-after_sign : goal.returns-in_default-after_sign
returns-in_default-after_sign c =
    let found = rw c.in-Some-2.is at c.in_ok-parameters.ensures in
    no_parameters _ _ c.in-Some.ensures
    (inside_open _ _ parameters_listable _ _ _ found c.in_default-after_sign.ensures)
