use Rattle.nll_command_line.proofs.PlacingLemmas.{plain_read}
use Rattle.nll_command_line.proofs.laws.plain_line_is_read.Goals as goal

pub returns : goal.returns
returns c = plain_read
