use Rattle.nll_command_line.proofs.PlacingLemmas.{help_read}
use Rattle.nll_command_line.proofs.laws.help_is_read.Goals as goal

pub returns : goal.returns
returns c = help_read
