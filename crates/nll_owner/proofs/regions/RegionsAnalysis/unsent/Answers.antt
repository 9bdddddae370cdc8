use Rattle.nll_owner.proofs.RegionLemmas.{part_sound}
use Rattle.nll_owner.proofs.regions.RegionsAnalysis.unsent.Goals as goal

pub returns-clause-sound : goal.returns-clause-sound
returns-clause-sound c = part_sound c.args.part.now c.unsent.ensures.sound
