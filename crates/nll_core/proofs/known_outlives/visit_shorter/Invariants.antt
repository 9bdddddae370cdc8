use Rattle.std.proofs.Common.{◌≡◌, ℕ, ◌<◌, get_or}
use Rattle.nll_core.specs.Outliving.{IsShorterOf}
use Rattle.nll_core.specs.Search.{IsIn, AddsOfKind}
use Rattle.nll_core.proofs.known_outlives.visit_shorter.Given as goal

abbrev pub invariant-loop-fact : goal.invariant-loop-fact
invariant-loop-fact g l = record {
  adds : AddsOfKind (IsShorterOf l.facts) l.fn.search l.search;
  all : (k a b : ℕ) → k < l.fact-index → get_or l.facts k (a, b) ≡ (a, b) → IsIn l.search.reached b;
}
