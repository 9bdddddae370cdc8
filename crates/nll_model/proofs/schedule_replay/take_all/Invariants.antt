use Rattle.std.proofs.Common.{◌≡◌, take}
use Rattle.nll_model.specs.Events.{AreSteps}
use Rattle.nll_model.proofs.schedule_replay.take_all.Given as goal

abbrev pub invariant-loop-event : goal.invariant-loop-event
invariant-loop-event l = record {
  steps : AreSteps l.fn.world.state (take l.event-index l.events) l.answers.items l.world.state;
  others : l.world ≡ record l.fn.world { state = l.world.state };
}
