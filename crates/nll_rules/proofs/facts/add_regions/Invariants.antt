use Rattle.std.proofs.Common.{◌≡◌}
use Rattle.nll_rules.proofs.facts.add_regions.Given as goal

abbrev pub invariant-loop-number : goal.invariant-loop-number
invariant-loop-number l = l.builder ≡ record l.fn.builder { regions = l.number }
