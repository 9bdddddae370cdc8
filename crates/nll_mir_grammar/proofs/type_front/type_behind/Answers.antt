use Rattle.nll_text.specs.Tokens.{sign}
use Rattle.nll_text.specs.LineTokens.{tokens_in}
use Rattle.nll_mir_grammar.specs.TypeTexts.{written}
use Rattle.nll_mir_grammar.specs.Parts.{types}
use Rattle.nll_mir_grammar.proofs.GrammarLemmas.{read_behind}
use Rattle.nll_mir_grammar.proofs.type_front.type_behind.Goals as goal

pub returns-in-Some : goal.returns-in-Some
returns-in-Some c =
    read_behind types (sign 58) _ _ (λ p. written p.0)
    (λ p. tokens_in p.1.now) _ c.in-Some.ensures c.type_front.ensures
