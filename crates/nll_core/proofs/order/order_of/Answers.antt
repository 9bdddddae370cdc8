use Rattle.std.proofs.Common.{List, Contains, subst, arith}
use Rattle.nll_problem.specs.declared.constraint.Constraint.{Constraint}
use Rattle.nll_core.proofs.order.order_of.Goals as goal

pub starts_of-requires : goal.starts_of-requires
starts_of-requires c = λ k h.
    let own =
    c.regions-regions.ensures.sound.constraint_regions k
    ((c.requires k).0 (subst (λ (xs : List Constraint). Contains xs k) c.constraints.ensures.value h)) in
    (omega (arith, own.1, c.regions-regions.ensures.value), omega (arith, own.0, c.regions-regions.ensures.value))

pub descend-requires-clause-constraints : goal.descend-requires-clause-constraints
descend-requires-clause-constraints c = λ k h.
    let own =
    c.regions-regions.ensures.sound.constraint_regions k
    ((c.requires k).0 (subst (λ (xs : List Constraint). Contains xs k) c.constraints-in-loop-root.ensures.value h))
    in
    (omega (arith, own.1, c.regions-regions.ensures.value), omega (arith, own.0, c.regions-regions.ensures.value))
