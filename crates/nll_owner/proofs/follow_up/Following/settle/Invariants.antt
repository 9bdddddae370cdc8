use Rattle.std.proofs.Common.{◌-◌, map}
use Rattle.nll_owner.specs.Owner.{pair_count}
use Rattle.nll_owner.specs.Keeping.{OwnerGrows}
use Rattle.nll_owner.specs.Following.{IsFollowing, Nothing, following_of}
use Rattle.nll_owner.proofs.follow_up.Following.settle.Given as goal

abbrev pub invariant-loop-self : goal.invariant-loop-self
invariant-loop-self l = record {
  grows : OwnerGrows l.fn.knowledge l.knowledge;
  following : IsFollowing Nothing l.knowledge
      (following_of (map (λ row. row.items) l.self-inside.rows.items) l.self-inside.place);
}

abbrev pub decreases-loop-self : goal.decreases-loop-self
decreases-loop-self l = pair_count l.knowledge.problem - l.self-inside.place
