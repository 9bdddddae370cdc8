use Rattle.std.proofs.Common.{take}
use Rattle.nll_body.specs.Making.{AddsTargets}
use Rattle.nll_body.proofs.edges.add_targets.Given as goal

abbrev pub invariant-loop-block : goal.invariant-loop-block
invariant-loop-block l = AddsTargets l.starts l.point (take l.block-index l.blocks) l.fn.graph l.graph
