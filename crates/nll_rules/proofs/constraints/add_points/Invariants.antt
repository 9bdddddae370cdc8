use Rattle.nll_rules.specs.Adding.{AddsConstraints, IsAskedBefore}
use Rattle.nll_rules.specs.Knowing.{IsOfBody}
use Rattle.nll_rules.proofs.constraints.add_points.Given as goal

abbrev pub invariant-loop-point : goal.invariant-loop-point
invariant-loop-point l = record {
  adds : AddsConstraints (IsAskedBefore l.body l.point) l.fn.builder l.builder;
  known : IsOfBody l.body l.known;
}
