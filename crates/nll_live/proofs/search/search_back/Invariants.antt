use Rattle.std.proofs.Common.{ℕ, ◌+◌, ◌-◌, ◌<◌, Contains, length}
use Rattle.std.specs.Prelude.{slice_index}
use Rattle.nll_live.specs.Lows.{IsLow}
use Rattle.nll_live.specs.Marks.{IsUnderNewMark, AreFound, ReachesMore, unmarked}
use Rattle.nll_live.proofs.SearchLemmas.{Searching}
use Rattle.nll_live.proofs.search.search_back.Given as goal

abbrev pub invariant-loop-point : goal.invariant-loop-point
invariant-loop-point l = record {
  reaches : ReachesMore (λ low p. Contains l.ends p × IsLow (slice_index l.search.starts.now p)
      l.search.definitions.now p low) l.turn
      l.fn.room.marks.items l.fn.room.heights.items l.fn.room.lows.items l.room.marks.items l.room.heights.items
      l.room.lows.items;
  found : AreFound l.room.marks.items l.room.heights.items l.turn l.room.lows.items;
  all : (k : ℕ) → k < l.point-index → IsUnderNewMark l.room.marks.items l.room.heights.items l.turn
      (slice_index l.ends k);
}

abbrev pub invariant-loop-place : goal.invariant-loop-place
invariant-loop-place l =
    Searching l.search.body.now l.search.variable l.turn l.ends l.fn.room.marks.items l.fn.room.heights.items
    l.room.marks.items
    l.room.heights.items l.room.lows.items l.place

abbrev pub decreases-loop-place : goal.decreases-loop-place
decreases-loop-place l = (length l.room.lows.items - l.place) + unmarked l.room.marks.items l.turn
