use Rattle.nll_model.proofs.LawfulLemmas.{lawful}
use Rattle.nll_model.proofs.laws.sound_states_are_lawful.Goals as goal

pub returns : goal.returns
returns c = λ q cut w problem of sound. lawful q cut w sound problem of
