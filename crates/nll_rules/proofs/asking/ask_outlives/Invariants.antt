use Rattle.std.proofs.Common.{take}
use Rattle.nll_rules.specs.Pairs.{AddsPairs, OneOutlives}
use Rattle.nll_rules.proofs.asking.ask_outlives.Given as goal

abbrev pub invariant-loop-longer : goal.invariant-loop-longer
invariant-loop-longer l =
    AddsPairs (OneOutlives (take l.longer-index l.regions) l.region) l.fn.pairs.items l.pairs.items
