use Rattle.nll_owner.proofs.RegionLemmas.{part_sound, part_done, on_ok}
use Rattle.nll_owner.proofs.regions.RegionsAnalysis.load.Goals as goal

pub returns-clause-done : goal.returns-clause-done
returns-clause-done c = on_ok c.load.result (part_done c.load.new.self) c.load.ensures.done

pub returns-clause-sound : goal.returns-clause-sound
returns-clause-sound c = part_sound c.load.new.self c.load.ensures.sound
