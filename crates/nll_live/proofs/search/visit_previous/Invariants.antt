use Rattle.std.proofs.Common.{ℕ, ◌<◌, Contains}
use Rattle.std.specs.Prelude.{slice_index}
use Rattle.nll_live.specs.Live.{DefinesAt}
use Rattle.nll_live.specs.Lows.{IsLow}
use Rattle.nll_live.specs.Marks.{IsUnderNewMark, AreFound, ReachesMore}
use Rattle.nll_live.proofs.search.visit_previous.Given as goal

abbrev pub invariant-loop-before : goal.invariant-loop-before
invariant-loop-before l = record {
  reaches : ReachesMore (λ low p. Contains l.points p × (DefinesAt l.search.body.now l.search.variable p → ⊥)
      × IsLow (slice_index l.search.starts.now p) l.search.definitions.now p low) l.turn l.fn.room.marks.items
      l.fn.room.heights.items
      l.fn.room.lows.items l.room.marks.items l.room.heights.items l.room.lows.items;
  found : AreFound l.room.marks.items l.room.heights.items l.turn l.room.lows.items;
  all : (k : ℕ) → k < l.before-index → (DefinesAt l.search.body.now l.search.variable (slice_index l.points k) → ⊥)
      → IsUnderNewMark l.room.marks.items l.room.heights.items l.turn (slice_index l.points k);
}
