use Rattle.std.proofs.Common.{◌≡◌, ℕ, ◌<◌, false, get_or}
use Rattle.nll_problem.specs.Graph.{IsReturn}
use Rattle.nll_sets.specs.ElementSet.{flag}
use Rattle.nll_sets.specs.Runs.{no_run, IsWithin}
use Rattle.nll_core.proofs.ResumeLemmas.{no_landing}
use Rattle.nll_core.proofs.frontiers.continuation.has_return.Given as goal

abbrev pub invariant-loop-landing : goal.invariant-loop-landing
invariant-loop-landing l = (k : ℕ) → k < l.landing-index
    → flag l.reached (get_or l.returns k no_landing).from ≡ false

abbrev pub invariant-loop-run : goal.invariant-loop-run
invariant-loop-run l = (k x : ℕ) → k < l.run-index → IsWithin (get_or l.run-items k no_run) x → IsReturn l.landings x
    → ⊥
