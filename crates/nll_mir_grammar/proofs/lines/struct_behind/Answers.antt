use Rattle.std.proofs.Common.{map}
use Rattle.nll_mir_grammar.specs.TypeTexts.{written}
use Rattle.nll_text.specs.LineTokens.{tokens_in}
use Rattle.nll_mir_grammar.specs.Grammars.{pair}
use Rattle.nll_mir_grammar.specs.Lines.{parameter_of}
use Rattle.nll_mir_grammar.specs.Parts.{drop_marks, parameter_lists, tuples}
use Rattle.nll_mir_grammar.specs.Tuples.{parts}
use Rattle.nll_mir_grammar.proofs.GrammarLemmas.{pair_none, read_pair}
use Rattle.nll_mir_grammar.proofs.PartLemmas.{parameter_lists_one}
use Rattle.nll_mir_grammar.proofs.KindLemmas.{drop_marks_one, drops_join, parameters_join}
use Rattle.nll_mir_grammar.proofs.lines.struct_behind.Goals as goal

pub returns-in_default : goal.returns-in_default
returns-in_default c = let none = rw c.in_default.is at c.in_ok-parameters.ensures in
    pair_none parameter_lists (pair drop_marks tuples) parameters_join _ none

pub returns : goal.returns
returns c =
    let found = rw c.in-Some.is at c.in_ok-parameters.ensures in
    rw (c.with.ensures, c.with-fields.ensures)
    (read_pair parameter_lists (pair drop_marks tuples) parameter_lists_one parameters_join _ _ c.in-Some.parameters
    (λ v. map parameter_of v.items) (λ f. (f.0, parts (written f.1))) (λ r. tokens_in r.now) _ found
    (read_pair drop_marks tuples drop_marks_one drops_join _ _ c.drop_mark_at-has_drop.result.0 (λ m. m)
    (λ t. parts (written t)) (λ r. tokens_in r.now) _ c.drop_mark_at-has_drop.ensures c.tuple_front.ensures))
