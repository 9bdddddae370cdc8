use Rattle.std.proofs.Common.{take}
use Rattle.nll_rules.specs.Adding.{AddsOutlives}
use Rattle.nll_rules.proofs.facts.add_outlives.Given as goal

abbrev pub invariant-loop-fact : goal.invariant-loop-fact
invariant-loop-fact l = AddsOutlives (take l.fact-index l.facts) l.fn.builder l.builder
