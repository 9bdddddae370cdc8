use Rattle.nll_mir_grammar.proofs.OneTree.{some_tokens}
use Rattle.nll_mir_grammar.proofs.laws.a_type_has_tokens.Goals as goal

pub returns : goal.returns
returns c = some_tokens
