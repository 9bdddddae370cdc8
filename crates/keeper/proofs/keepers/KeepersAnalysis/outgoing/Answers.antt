use Rattle.keeper.proofs.WholeLemmas.{whole_given}
use Rattle.keeper.proofs.keepers.KeepersAnalysis.outgoing.Goals as goal

pub invariant_of-part : goal.invariant_of-part
invariant_of-part g c = (
  c.give.ensures.sound,
  whole_given g.E.Rules.rules _ _ _ _ _ _ _ c.give.ensures.given c.part.invariant.1,
)
