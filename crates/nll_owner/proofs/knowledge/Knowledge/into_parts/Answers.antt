use Rattle.nll_owner.proofs.HoldingLemmas.{kept_region, kept_values, same_values}
use Rattle.nll_owner.proofs.knowledge.Knowledge.into_parts.Goals as goal

pub of-requires-clause-regions : goal.of-requires-clause-regions
of-requires-clause-regions c = λ r h. kept_region _ _ _ c.self.invariant r h

pub returns-clause-values : goal.returns-clause-values
returns-clause-values c =
    rw (← c.self.view_is) (same_values _ _ _ _ _ _ (kept_values _ _ _ c.self.invariant) c.of.ensures)
