use Rattle.std.proofs.Common.{take}
use Rattle.nll_rules.specs.Adding.{AddsConstraints, IsOfPairsEverywhere}
use Rattle.nll_rules.proofs.constraints.add_everywhere.Given as goal

abbrev pub invariant-loop-pair : goal.invariant-loop-pair
invariant-loop-pair l = AddsConstraints (IsOfPairsEverywhere (take l.pair-index l.pairs)) l.fn.builder l.builder
