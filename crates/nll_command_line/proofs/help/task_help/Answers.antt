use Rattle.std.proofs.Common.{refl}
use Rattle.nll_command_line.proofs.help.task_help.Goals as goal

pub returns-in-Replay : goal.returns-in-Replay
returns-in-Replay c = rw c.in-Replay.is refl
