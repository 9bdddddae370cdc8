use Rattle.nll_core.specs.Lines.{AreEndsTo, AreJumps}
use Rattle.nll_core.proofs.lines.jumps_of.Given as goal

abbrev pub invariant-loop-point : goal.invariant-loop-point
invariant-loop-point l =
    AreJumps l.graph l.point l.starts.items l.targets.items × AreEndsTo l.graph l.point l.ends.items
