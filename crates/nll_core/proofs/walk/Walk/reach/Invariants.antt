use Rattle.std.proofs.Common.{◌-◌, length}
use Rattle.nll_core.proofs.LedWalkLemmas.{Entering}
use Rattle.nll_core.proofs.walk.Walk.reach.Given as goal

abbrev pub invariant-loop-found : goal.invariant-loop-found
invariant-loop-found l =
    Entering l.lines l.sub l.pair l.initial.self.reached l.self.reached l.initial.self.todo.items l.self.todo.items
    l.place

abbrev pub decreases-loop-found : goal.decreases-loop-found
decreases-loop-found l = length l.pair - l.place
