use Rattle.std.proofs.Common.{◌<◌}
use Rattle.nll_core.specs.Search.{HasAll, AddsOfKind}
use Rattle.nll_core.proofs.known_outlives.visit_below.Given as goal

abbrev pub invariant-loop-number : goal.invariant-loop-number
invariant-loop-number g l = record {
  adds : AddsOfKind (λ x. x < l.count) l.fn.search l.search;
  all : HasAll (λ x. x < l.number) l.search.reached;
}
