use Rattle.nll_mir_grammar.specs.Parts as parts
use Rattle.nll_mir_grammar.proofs.GrammarLemmas.{pair_none, pair_none_behind}
use Rattle.nll_mir_grammar.proofs.PartLemmas.{operands_one}
use Rattle.nll_mir_grammar.proofs.KindLemmas.{switch_join}
use Rattle.nll_mir_grammar.proofs.points.switch_line.Goals as goal

pub returns-in_default : goal.returns-in_default
returns-in_default c = let none = rw c.in_default.is at c.in_ok-operand.ensures in
    pair_none parts.operands parts.block_lists switch_join _ none

pub returns-in_default-2 : goal.returns-in_default-2
returns-in_default-2 c =
    let found = rw c.in-Some.is at c.in_ok-operand.ensures in
    let none = rw c.in_default-2.is at c.in_ok-blocks.ensures in
    pair_none_behind parts.operands parts.block_lists operands_one switch_join _ _ _ found none
