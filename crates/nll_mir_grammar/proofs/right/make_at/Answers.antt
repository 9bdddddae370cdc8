use Rattle.std.proofs.Common.{map, refl}
use Rattle.nll_types.specs.Operands.{operand_of}
use Rattle.nll_mir_grammar.specs.TypeTexts.{written}
use Rattle.nll_text.specs.LineTokens.{tokens_in}
use Rattle.nll_mir_grammar.specs.Grammars.{parentheses}
use Rattle.nll_mir_grammar.specs.Parts as parts
use Rattle.nll_mir_grammar.proofs.GrammarLemmas.{pair_none, read_pair}
use Rattle.nll_mir_grammar.proofs.PartLemmas.{operands_listable, types_one}
use Rattle.nll_mir_grammar.proofs.KindLemmas.{makes_join}
use Rattle.nll_mir_grammar.proofs.right.make_at.Goals as goal

pub returns-in_default : goal.returns-in_default
returns-in_default c = let none = rw c.in_default.is at c.in_ok-ty.ensures in
    pair_none parts.types (parentheses parts.operands) makes_join _ none

pub returns : goal.returns
returns c =
    let found = rw c.in-Some.is at c.in_ok-ty.ensures in
    rw c.with.ensures
    (read_pair parts.types (parentheses parts.operands) types_one makes_join _ _ c.in-Some.ty written
    (λ v. map operand_of v.items) (λ r. tokens_in r.now) _ found c.values_in.ensures)

pub values_in-requires : goal.values_in-requires
values_in-requires c k = ((refl, tt), operands_listable)
