use Rattle.nll_command_line.proofs.PlacingLemmas.{read_in_one_way}
use Rattle.nll_command_line.proofs.laws.one_reading.Goals as goal

pub returns : goal.returns
returns c = λ words others more said other a b. let h = read_in_one_way words others said a more other b in (h.0, h.1)
