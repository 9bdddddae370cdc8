use Rattle.std.proofs.Common.{◌≡◌, ◌<◌, ℕ, []}
use Rattle.nll_model.specs.State.{lane_to}
use Rattle.nll_model.proofs.seat.Seat.has_sent.Given as goal

abbrev pub invariant-loop-lane : goal.invariant-loop-lane
invariant-loop-lane l = (j : ℕ) → j < l.lane-index → (lane_to l.self j).out ≡ []
