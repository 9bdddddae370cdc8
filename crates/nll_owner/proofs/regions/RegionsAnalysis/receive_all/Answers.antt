use Rattle.nll_owner.proofs.RegionLemmas.{part_sound, part_done, passes_from, on_ok}
use Rattle.nll_owner.proofs.regions.RegionsAnalysis.receive_all.Goals as goal

pub receive_all-requires-clause-passes : goal.receive_all-requires-clause-passes
receive_all-requires-clause-passes c = λ g at.
    let o = c.args.part.now in
    passes_from o.problem o.cut o.me c.args.from g (c.requires.passes g at)

pub returns-clause-done : goal.returns-clause-done
returns-clause-done c = on_ok c.receive_all.result (part_done c.receive_all.new.self) c.receive_all.ensures.done

pub returns-clause-sound : goal.returns-clause-sound
returns-clause-sound c = part_sound c.receive_all.new.self c.receive_all.ensures.sound
