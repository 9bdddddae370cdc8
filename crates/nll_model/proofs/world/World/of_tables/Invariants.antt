use Rattle.std.proofs.Common.{◌≡◌, length}
use Rattle.nll_model.proofs.ReplayLemmas.{AreFirst}
use Rattle.nll_model.proofs.world.World.of_tables.Given as goal

abbrev pub invariant-loop-me : goal.invariant-loop-me
invariant-loop-me l = (length l.seats.items ≡ l.me) × AreFirst l.problem l.cut l.seats.items
