use Rattle.nll_mir_grammar.specs.Grammars.{pair}
use Rattle.nll_mir_grammar.specs.Parts as parts
use Rattle.nll_mir_grammar.proofs.GrammarLemmas.{pair_none_behind}
use Rattle.nll_mir_grammar.proofs.PartLemmas.{names_one, names_join}
use Rattle.nll_mir_grammar.proofs.lines.struct_line.Goals as goal

pub returns-in_default-2 : goal.returns-in_default-2
returns-in_default-2 c =
    let none = rw c.in_default-2.is at c.in_ok-parameters.ensures in
    pair_none_behind parts.names (pair parts.parameter_lists (pair parts.drop_marks parts.tuples)) names_one
    (names_join (pair parts.parameter_lists (pair parts.drop_marks parts.tuples))) _ _ _ c.in-Some.ensures none
