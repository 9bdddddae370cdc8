use Rattle.nll_mir_grammar.proofs.PartLemmas.{no_tuple}
use Rattle.nll_mir_grammar.proofs.type_front.tuple_front.Goals as goal

pub returns-in-None : goal.returns-in-None
returns-in-None c = no_tuple _ (rw c.in-None.is at c.in_ok-ty.ensures)
