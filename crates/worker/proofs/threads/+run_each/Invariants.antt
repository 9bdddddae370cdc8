use Rattle.std.specs.VecDeque.{deque_len}
use Rattle.worker.proofs.threads.+run_each.Given as goal

abbrev pub decreases-run_each : goal.decreases-run_each
decreases-run_each g l = deque_len l.jobs
