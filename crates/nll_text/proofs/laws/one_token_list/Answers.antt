use Rattle.nll_text.proofs.TokenLemmas.{one_token_list_lem}
use Rattle.nll_text.proofs.laws.one_token_list.Goals as goal

pub returns : goal.returns
returns c = one_token_list_lem
