use Rattle.std.proofs.Common.{ℕ, Bool, List}
use Rattle.nll_owner.specs.Holding.{HasSet}
use Rattle.nll_owner_tests.proofs.holdings.write_all_taken.Given as goal

-- each region that had a set still has one
abbrev pub invariant-loop-number : goal.invariant-loop-number
invariant-loop-number l =
    (r : ℕ) (set : List Bool) → HasSet l.initial.holding r set → (left : List Bool) × HasSet l.holding r left
