use Rattle.std.proofs.Common.{take}
use Rattle.nll_rules.specs.Adding.{AddsBases}
use Rattle.nll_rules.proofs.facts.add_bases.Given as goal

abbrev pub invariant-loop-run : goal.invariant-loop-run
invariant-loop-run l = AddsBases (take l.run-index l.runs) l.fn.builder l.builder
