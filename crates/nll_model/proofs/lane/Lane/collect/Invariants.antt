use Rattle.std.proofs.Common.{◌≡◌, ◌-◌, length}
use Rattle.nll_owner.specs.Owner.{part_for, given_to}
use Rattle.nll_model.proofs.CollectLemmas.{Collecting}
use Rattle.nll_model.proofs.lane.Lane.collect.Given as goal

abbrev pub invariant-loop-growth : goal.invariant-loop-growth
invariant-loop-growth l = record {
  collecting : Collecting l.fn.owner l.owner l.to l.fn.self.fresh l.self-inside.fresh.items;
  out : l.self-inside.out.items ≡ l.fn.self.out;
  box : l.self-inside.boxed.items ≡ l.fn.self.box;
}

abbrev pub decreases-loop-growth : goal.decreases-loop-growth
decreases-loop-growth l = length (part_for l.owner l.to) - given_to l.owner l.to
