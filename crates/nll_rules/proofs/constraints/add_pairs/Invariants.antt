use Rattle.std.proofs.Common.{take}
use Rattle.nll_rules.specs.Adding.{AddsConstraints, IsOfPair, IsOfPairs}
use Rattle.nll_rules.proofs.constraints.add_pairs.Given as goal

abbrev pub invariant-loop-pair : goal.invariant-loop-pair
invariant-loop-pair l = AddsConstraints (IsOfPairs l.points (take l.pair-index l.pairs)) l.fn.builder l.builder

abbrev pub invariant-loop-point : goal.invariant-loop-point
invariant-loop-point l =
    AddsConstraints (IsOfPair (take l.point-index l.points) (l.sup, l.sub)) l.initial.builder l.builder
