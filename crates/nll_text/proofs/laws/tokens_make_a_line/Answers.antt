use Rattle.nll_text.proofs.TokenLemmas.{made_are_in, tokens_make}
use Rattle.nll_text.proofs.laws.tokens_make_a_line.Goals as goal

pub returns-clause-made : goal.returns-clause-made
returns-clause-made c = made_are_in

pub returns-clause-make : goal.returns-clause-make
returns-clause-make c = tokens_make
