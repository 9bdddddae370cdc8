use Rattle.nll_mir_text.proofs.LawLemmas.{meanings_are_typed_lem}
use Rattle.nll_mir_text.proofs.laws.mir_meaning_is_well_typed.Goals as goal

pub returns : goal.returns
returns c = meanings_are_typed_lem
