use Rattle.nll_mir_text.proofs.OwnLemmas.{absent_number}
use Rattle.nll_mir_text.proofs.tables.StructNames.add.Goals as goal

pub add-requires-clause-absent : goal.add-requires-clause-absent
add-requires-clause-absent c = absent_number _ _ c.requires.new
