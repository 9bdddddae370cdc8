use Rattle.std.proofs.Common.{ℕ, ◌+◌, ◌-◌, ◌<◌, ◌≤◌}
use Rattle.nll_owner.specs.Owner.{Has}
use Rattle.nll_owner.specs.Keeping.{OwnerGrows}
use Rattle.nll_owner.proofs.knowledge.Knowledge.grow_run.Given as goal

abbrev pub invariant-loop-gap : goal.invariant-loop-gap
invariant-loop-gap l = record {
  grows : OwnerGrows l.fn.self l.self;
  low : l.run.first ≤ l.next;
  covers : (x : ℕ) → l.run.first ≤ x → x < l.next → Has l.self l.region x;
}

abbrev pub decreases-loop-gap : goal.decreases-loop-gap
decreases-loop-gap l = l.run.last + 1 - l.next
