use Rattle.nll_types.proofs.MemoLemmas.{remembered_stay}
use Rattle.nll_types.proofs.type_table.TypeTable.int.Goals as goal

pub invariant_of-self : goal.invariant_of-self
invariant_of-self c = remembered_stay _ _ _ _ c.self.invariant c.int.ensures.extends
