use Rattle.nll_mir_grammar.proofs.ListLemmas.{parentheses_without, parentheses_open}
use Rattle.nll_mir_grammar.proofs.lists.values_in.Goals as goal

pub returns-in_default-2 : goal.returns-in_default-2
returns-in_default-2 g c =
    let none = rw c.in_default-2.is at c.in_ok-values.ensures in
    parentheses_without g.T.Listed.grammar c.requires _ _ c.in-Some.ensures c.in_default-after_sign.ensures none

pub returns-in-None : goal.returns-in-None
returns-in-None g c =
    let found = rw c.in-Some-2.is at c.in_ok-values.ensures in
    parentheses_open g.T.Listed.grammar c.requires _ _ _ _ c.in-Some.ensures c.in_default-after_sign.ensures found
    c.in-None.ensures
