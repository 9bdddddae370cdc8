use Rattle.nll_mir_grammar.proofs.PartLemmas.{no_copied, no_moved}
use Rattle.nll_mir_grammar.proofs.place.operand_at.Goals as goal

pub returns-in_default-2 : goal.returns-in_default-2
returns-in_default-2 c =
    let none = rw c.in_default-2.is at c.in_ok-place.ensures in no_copied _ _ c.in-Some.ensures.begins none

pub returns-in_default-3 : goal.returns-in_default-3
returns-in_default-3 c =
    let none = rw c.in_default-3.is at c.in_ok-place-2.ensures in
    no_moved _ _ c.in-Some-after_word-2.ensures.begins none
