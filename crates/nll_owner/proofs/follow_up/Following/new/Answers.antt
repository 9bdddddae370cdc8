use Rattle.std.proofs.Common.{length, sym, subst, ap, ◌∙◌}
use Rattle.nll_owner.specs.Keeping.{IsSlotIn}
use Rattle.nll_owner.proofs.FollowingLemmas.{first_following}
use Rattle.nll_owner.proofs.follow_up.Following.new.Goals as goal

pub returns : goal.returns
returns c =
    first_following (λ row. row.items) c.args.problem.now c.args.cut.now c.args.me c.in_ok-rows.rows.items
    (c.in_ok-rows.ensures.count ∙ ap length c.requires.slots)
    (λ s r row at. c.in_ok-rows.ensures.links s r row (subst (λ xs. IsSlotIn xs s r) (sym c.requires.slots) at))
