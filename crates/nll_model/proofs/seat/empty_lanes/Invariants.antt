use Rattle.std.proofs.Common.{◌≡◌, replicate}
use Rattle.nll_model.specs.State.{empty_lane}
use Rattle.nll_model.proofs.seat.empty_lanes.Given as goal

abbrev pub invariant-loop : goal.invariant-loop
invariant-loop l = l.lanes.items ≡ replicate l.counter empty_lane
