use Rattle.std.proofs.Common.{length}
use Rattle.nll_live.specs.Kinds.{KeepsAt}
use Rattle.nll_live.specs.Live.{IsLive}
use Rattle.nll_live.specs.Rooms.{IsRoomOf}
use Rattle.nll_live.proofs.SetLemmas.{AreSetsUpTo}
use Rattle.nll_live.proofs.live_sets.sets_of.Given as goal

abbrev pub invariant-loop-variable : goal.invariant-loop-variable
invariant-loop-variable l = record {
  room : IsRoomOf (length l.ways.body.now.points) l.variable l.room;
  sets : AreSetsUpTo (length l.ways.body.now.points)
      (λ x. IsLive l.ways.body.now (KeepsAt l.kind l.ways.body.now x) x) l.variable l.sets.items;
}
