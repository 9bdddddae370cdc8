use Rattle.std.proofs.Common.{◌≡◌, ◌+◌, ◌*◌, ◌^◌, ◌≤◌, length}
use Rattle.fixpoint.specs.State.{part_for, given_to}
use Rattle.fixpoint.specs.Sums.{sum_to}
use Rattle.worker.proofs.tally.count_new.Given as goal

abbrev pub invariant-loop-to : goal.invariant-loop-to
invariant-loop-to g l =
    (sum_to l.to (λ j. given_to (g.A.Analysis.state l.part) j) + l.waiting ≡ sum_to l.to (λ j. length
    (part_for g.A.Rules.rules (g.A.Analysis.state l.part) j)))
    × (l.waiting ≤ l.to * 2 ^ 37)
