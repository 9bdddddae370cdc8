use Rattle.std.proofs.Crossing.{crosses}
use denote.Param.Send.{sendable}
use Rattle.nll_owner.proofs.SendLemmas.{owner_send, regions_sync}
use Rattle.nll_run.proofs.coordinator.run_with.Goals as goal

pub run_with-ran-requires-send-A-Part : goal.run_with-ran-requires-send-A-Part
run_with-ran-requires-send-A-Part g c κs within = search (crosses, sendable, owner_send)

pub run_with-ran-requires-sync-A : goal.run_with-ran-requires-sync-A
run_with-ran-requires-sync-A g c κs within = search (crosses, sendable, regions_sync)
