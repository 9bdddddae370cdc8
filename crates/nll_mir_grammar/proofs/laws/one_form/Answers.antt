use Rattle.nll_mir_grammar.proofs.LineLemmas.{one_form_lem}
use Rattle.nll_mir_grammar.proofs.laws.one_form.Goals as goal

pub returns : goal.returns
returns c = one_form_lem
