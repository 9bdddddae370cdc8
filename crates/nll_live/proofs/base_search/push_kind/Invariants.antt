use Rattle.std.proofs.Common.{length}
use Rattle.nll_live.specs.Kinds.{AsksFor}
use Rattle.nll_live.specs.Rooms.{IsRoomOf}
use Rattle.nll_live.proofs.AskLemmas.{AreAskedTo}
use Rattle.nll_live.proofs.base_search.push_kind.Given as goal

abbrev pub invariant-loop-variable : goal.invariant-loop-variable
invariant-loop-variable l = record {
  room : IsRoomOf (length l.ways.body.now.points) l.variable l.room;
  asked : AreAskedTo (AsksFor l.kind l.ways.body.now) l.fn.base_runs.items l.variable l.base_runs.items;
}
