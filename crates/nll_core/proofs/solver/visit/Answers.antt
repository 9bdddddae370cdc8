use Rattle.std.proofs.Common.{◌≡◌, ◌∙◌, ◌<◌, Contains, get_or, ap, subst, arith}
use Rattle.std.proofs.lemmas.List.{get_or_default}
use Rattle.nll_problem.specs.declared.constraint.Constraint.{Constraint}
use Rattle.nll_core.specs.Walking.{no_constraint, constraint_at}
use Rattle.nll_core.proofs.LedWalkLemmas.{contained_at}
use Rattle.nll_core.proofs.WorklistLemmas.{sups_ascend, part_of, part_ascends, in_part, visiting_more, visiting_end}
use Rattle.nll_core.proofs.solver.visit.Goals as goal
use Rattle.nll_core.proofs.solver.visit.Goals.{After-pair_end-end}

pub pair_end-end-requires-clause-ascending : goal.pair_end-end-requires-clause-ascending
pair_end-end-requires-clause-ascending c =
    sups_ascend c.reading-constraints.result.now c.reading-constraints.ensures.ascending

-- each constraint that reads the region is one of the problem
of_problem : (c : After-pair_end-end) (k : Constraint) → Contains c.reading-constraints.result.now k
    → Contains c.args.problem.now.constraints k
of_problem c k h = ((c.reading-constraints.ensures.each k).0 h).0

-- the region that the constraint at the place fills, by whichever default it is read
sup_is : (c : After-pair_end-end) (d : Constraint)
    → (constraint_at c.reading-constraints.result.now c.loop-place.place).sup
    ≡ (get_or c.reading-constraints.result.now c.loop-place.place d).sup
sup_is c d =
    ap (λ (k : Constraint). k.sup) (get_or_default c.reading-constraints.result.now c.loop-place.place no_constraint d
    c.loop-place-test.true)

pub meet-requires-clause-pair : goal.meet-requires-clause-pair
meet-requires-clause-pair c = λ k h.
    let d = (goal.at.meet-requires-clause-pair c).After-pair_end-end in
    let end = c.pair_end-end.ensures in
    let part =
    part_of c.reading-constraints.result.now c.loop-place.place c.pair_end-end.result end.more end.bound end.same k
    h in (
      of_problem d k part.0,
      ((c.reading-constraints.ensures.each k).0 part.0).1,
      part.1
          ∙ sup_is d c.index-constraints-place.result,
    )

pub meet-requires-clause-sup : goal.meet-requires-clause-sup
meet-requires-clause-sup c =
    let d = (goal.at.meet-requires-clause-sup c).After-pair_end-end in
    let here = contained_at c.reading-constraints.result.now c.loop-place.place c.loop-place-test.true in
    subst (λ s. s < c.args.problem.now.regions) (sup_is d c.index-constraints-place.result)
    (c.regions-regions.ensures.sound.constraint_regions _ (of_problem d _ here)).0

pub meet-requires-clause-ascending : goal.meet-requires-clause-ascending
meet-requires-clause-ascending c =
    let end = c.pair_end-end.ensures in
    part_ascends c.reading-constraints.result.now c.loop-place.place c.pair_end-end.result end.more end.bound
    (sups_ascend c.reading-constraints.result.now c.reading-constraints.ensures.ascending) end.same

pub loop-place-preserved : goal.loop-place-preserved
loop-place-preserved c =
    let constraints = c.reading-constraints.result.now in
    let end = c.pair_end-end.ensures in
    record {
      visiting =
          visiting_more c.args.problem.now c.args.sub constraints _ _ _ _ _ _ _ _ c.loop-place.place
          c.pair_end-end.result (λ k h. ((c.reading-constraints.ensures.each k).0 h).1) end.bound
          c.loop-place.invariant.visiting c.in_ok-new.ensures.visits
          (λ k a b. c.in_ok-new.ensures.met (constraint_at constraints k)
          (in_part constraints c.loop-place.place c.pair_end-end.result end.more end.bound k a b));
      walk = c.in_ok-new.ensures.walk;
    }

pub returns-clause-met : goal.returns-clause-met
returns-clause-met c = λ k h same.
    visiting_end c.args.problem.now c.args.sub c.reading-constraints.result.now _ _ _ _ _ c.loop-place.place
    (omega (arith, c.loop-place-test.false)) c.loop-place.invariant.visiting k
    ((c.reading-constraints.ensures.each k).1 (h, same))
