use Rattle.fixpoint.proofs.LawLemmas.{each_least}
use Rattle.fixpoint.proofs.laws.sound_parts_are_right.Goals as goal

pub returns : goal.returns
returns g c = λ a logs received ok sound.
    each_least g.A.Rules.rules
    g.met.A.Rules.lawful a ok
    logs received sound
