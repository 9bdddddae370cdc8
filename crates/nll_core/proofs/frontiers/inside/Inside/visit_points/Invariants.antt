use Rattle.std.proofs.Common.{ℕ, ◌<◌, Contains, slice_index}
use Rattle.nll_core.specs.Search.{IsIn, Within, AddsOfKind}
use Rattle.nll_core.proofs.frontiers.inside.Inside.visit_points.Given as goal

abbrev pub invariant-loop-point : goal.invariant-loop-point
invariant-loop-point g l =
    let set = g.S.ElementSet.flags l.self.set.now in
    record {
      adds : AddsOfKind (Within set (Contains l.points)) l.fn.search l.search;
      all : (k : ℕ) → k < l.point-index → IsIn set (slice_index l.points k)
          → IsIn l.search.reached (slice_index l.points k);
    }
