use Rattle.std.proofs.Common.{◌≡◌, ℕ, ◌≤◌, ◌<◌, ◌-◌, get_or}
use Rattle.nll_problem.specs.Graph.{IsNext}
use Rattle.nll_core.specs.Search.{IsIn}
use Rattle.nll_core.proofs.frontiers.element_growth.is_next_of.Given as goal

abbrev pub invariant-loop-found : goal.invariant-loop-found
invariant-loop-found l = (x : ℕ) → l.from ≤ x → x < l.next → IsIn l.reached x → IsNext l.graph x l.point → ⊥

abbrev pub decreases-loop-found : goal.decreases-loop-found
decreases-loop-found l = l.to - l.next

abbrev pub invariant-loop-successor : goal.invariant-loop-successor
invariant-loop-successor l = (k : ℕ) → k < l.successor-index → get_or l.successor-items k 0 ≡ l.point → ⊥
