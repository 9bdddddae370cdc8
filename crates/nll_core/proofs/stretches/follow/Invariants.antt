use Rattle.nll_core.specs.Walking.{AreIn}
use Rattle.nll_core.proofs.WalkingLemmas.{Following}
use Rattle.nll_core.proofs.stretches.follow.Given as goal

abbrev pub invariant-loop-target : goal.invariant-loop-target
invariant-loop-target l =
    Following l.lines l.sub l.fn.run l.target-items l.fn.reached l.reached l.fn.todo.items l.todo.items l.ends
    l.target-index × AreIn l.reached l.known
