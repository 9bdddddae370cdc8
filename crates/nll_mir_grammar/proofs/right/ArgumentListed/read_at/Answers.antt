use Rattle.nll_text.specs.Tokens.{sign}
use Rattle.nll_types.specs.Operands.{operand_of}
use Rattle.nll_mir_grammar.specs.TypeTexts.{written}
use Rattle.nll_text.specs.LineTokens.{tokens_in}
use Rattle.nll_mir_grammar.specs.Grammars.{behind_token}
use Rattle.nll_mir_grammar.specs.Parts as parts
use Rattle.nll_mir_grammar.proofs.GrammarLemmas.{read_pair}
use Rattle.nll_mir_grammar.proofs.PartLemmas.{operands_one, operands_join_colon}
use Rattle.nll_mir_grammar.proofs.right.ArgumentListed.read_at.Goals as goal

pub returns : goal.returns
returns c =
    let found = rw c.in-Some.is at c.in_ok-operand.ensures in
    rw c.with.ensures
    (read_pair parts.operands (behind_token (sign 58) parts.types) operands_one operands_join_colon _ _
    c.in-Some.operand
    operand_of written (λ r. tokens_in r.now) _ found c.type_behind.ensures)
