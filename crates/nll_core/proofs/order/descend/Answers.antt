use Rattle.std.proofs.Common.{◌∙◌, ◌+◌, ◌<◌, ap, subst, sym, arith}
use Rattle.std.proofs.lemmas.List.{length-set}
use Rattle.nll_problem.specs.declared.constraint.Constraint.{Constraint}
use Rattle.nll_core.specs.Order.{AreBelowCount}
use Rattle.nll_core.proofs.OrderLemmas.{below_last, below_fewer, below_more}
use Rattle.nll_core.proofs.order.descend.Goals as goal
use Rattle.nll_core.proofs.order.descend.Goals.{In-Some}

-- the region that was last on the path, and what is left of the path
within : (c : In-Some) → c.in-Some.region < c.args.regions
within c =
    below_last c.args.regions c.pop.new.self.items c.in-Some.region
    (subst (AreBelowCount c.args.regions) c.in-Some.ensures.items c.loop.invariant.path_within)

left : (c : In-Some) → AreBelowCount c.args.regions c.pop.new.self.items
left c =
    below_fewer c.args.regions c.pop.new.self.items c.in-Some.region
    (subst (AreBelowCount c.args.regions) c.in-Some.ensures.items c.loop.invariant.path_within)

pub index_mut-requires : goal.index_mut-requires
index_mut-requires c =
    omega (arith, within (goal.at.index_mut-requires c).In-Some, c.loop.invariant.next_sized, c.loop.descent.next.ok.0)

pub index-place-requires : goal.index-place-requires
index-place-requires c =
    omega (
      arith,
      within (goal.at.index-place-requires c).In-Some,
      c.loop.invariant.next_sized,
      c.loop.descent.next.ok.0,
    )

pub bounds-starts-at : goal.bounds-starts-at
bounds-starts-at c = omega (arith, within (goal.at.bounds-starts-at c).In-Some, c.requires.starts)

pub loop-preserved-then-place-starts : goal.loop-preserved-then-place-starts
loop-preserved-then-place-starts c =
    let d = (goal.at.loop-preserved-then-place-starts c).In-Some in
    record {
      next_sized = c.loop.invariant.next_sized;
      seen_sized = c.loop.invariant.seen_sized;
      path_within = left d;
      left_within =
          subst (AreBelowCount c.args.regions) (sym c.in_ok-push.ensures.items)
          (below_more c.args.regions c.loop.descent.left.items c.in-Some.region (within d)
          c.loop.invariant.left_within);
    }

pub enter-requires-clause-region : goal.enter-requires-clause-region
enter-requires-clause-region c =
    let k = c.index-constraints-place.result in
    let own =
    c.requires.constraints k (
      c.index-place.result.now,
      omega (arith, c.if-place-constraints.false),
      sym c.index-constraints-place.is,
    ) in
    omega (arith, own.1, ap (λ (d : Constraint). d.sup) c.index-constraints-place.is, c.sup.view_is)

pub enter-requires-clause-descent : goal.enter-requires-clause-descent
enter-requires-clause-descent c =
    let d = (goal.at.enter-requires-clause-descent c).In-Some in
    record {
      next_sized = length-set c.loop.descent.next.items c.in-Some.region (c.index-place.result.now + 1)
          ∙ c.loop.invariant.next_sized;
      seen_sized = c.loop.invariant.seen_sized;
      path_within =
          subst (AreBelowCount c.args.regions) (sym c.in_ok-push-2.ensures.items)
          (below_more c.args.regions c.pop.new.self.items c.in-Some.region (within d) (left d));
      left_within = c.loop.invariant.left_within;
    }
