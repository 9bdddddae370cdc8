use Rattle.std.proofs.Common.{ℕ, ◌<◌, ◌≤◌}
use Rattle.nll_core.specs.Search.{IsIn, IsInRange, Within, AddsOfKind}
use Rattle.nll_core.proofs.frontiers.inside.Inside.visit_range.Given as goal

abbrev pub invariant-loop-number : goal.invariant-loop-number
invariant-loop-number g l =
    let set = g.S.ElementSet.flags l.self.set.now in
    record {
      adds : AddsOfKind (Within set (IsInRange l.from l.to)) l.fn.search l.search;
      all : (x : ℕ) → l.from ≤ x → x < l.number → IsIn set x → IsIn l.search.reached x;
    }
