use Rattle.std.proofs.Common.{map, refl}
use Rattle.nll_text.specs.Tokens.{sign}
use Rattle.nll_text.specs.LineTokens.{tokens_in}
use Rattle.nll_mir_grammar.specs.Grammars.{behind_token, parentheses}
use Rattle.nll_mir_grammar.specs.Lines.{argument_of, result_of}
use Rattle.nll_mir_grammar.specs.Parts as parts
use Rattle.nll_mir_grammar.specs.Kinds.{results}
use Rattle.nll_mir_grammar.proofs.GrammarLemmas.{pair_none, read_pair}
use Rattle.nll_mir_grammar.proofs.ListLemmas.{parentheses_one}
use Rattle.nll_mir_grammar.proofs.PartLemmas.{arguments_listable}
use Rattle.nll_mir_grammar.proofs.KindLemmas.{signatures_join}
use Rattle.nll_mir_grammar.proofs.right.signature_at.Goals as goal

pub returns-in_default : goal.returns-in_default
returns-in_default c =
    let none = rw c.in_default.is at c.in_ok-arguments.ensures in
    pair_none (parentheses parts.arguments) (behind_token (sign 58) results) signatures_join _ none

pub returns : goal.returns
returns c =
    let found = rw c.in-Some.is at c.in_ok-arguments.ensures in
    rw c.with.ensures
    (read_pair (parentheses parts.arguments) (behind_token (sign 58) results)
    (parentheses_one parts.arguments arguments_listable) signatures_join _ _ c.in-Some.arguments
    (λ v. map argument_of v.items) result_of (λ r. tokens_in r.now) _ found c.result_behind.ensures)

pub values_in-requires : goal.values_in-requires
values_in-requires c k = ((refl, tt), arguments_listable)
