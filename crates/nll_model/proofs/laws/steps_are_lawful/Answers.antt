use Rattle.nll_model.proofs.LawfulLemmas.{lawful}
use Rattle.nll_model.proofs.StepsLemmas.{first_sound_state, steps_sound}
use Rattle.nll_model.proofs.laws.steps_are_lawful.Goals as goal

pub returns : goal.returns
returns c =
    λ q cut first last events answers problem of begins steps.
    lawful q cut last (steps_sound q cut first last events answers
    (first_sound_state q cut first problem of begins) steps) problem of
