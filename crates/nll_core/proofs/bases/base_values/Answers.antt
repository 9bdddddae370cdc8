use Rattle.nll_core.specs.Values.{IsHeld, IsShaped}
use Rattle.std.proofs.Common.{subst, sym}
use Rattle.nll_core.proofs.GrowingLemmas.{nothing_held}
use Rattle.nll_core.proofs.SolverLemmas.{base_exact, shaped_empty, shaped_gains}
use Rattle.nll_core.proofs.bases.base_values.Goals as goal
use Rattle.nll_core.proofs.bases.base_values.Goals.{In_ok-values}

empty_shaped : (c : In_ok-values) → IsShaped c.args.problem.now c.in_ok-values.values
empty_shaped c = subst (IsShaped c.args.problem.now) (sym c.in_ok-values.ensures) (shaped_empty c.args.problem.now)

pub insert_universals-requires : goal.insert_universals-requires
insert_universals-requires c = empty_shaped (goal.at.insert_universals-requires c).In_ok-values

pub insert_bases-requires : goal.insert_bases-requires
insert_bases-requires c =
    shaped_gains c.args.problem.now _ _ _
    (empty_shaped (goal.at.insert_bases-requires c).In_ok-values) c.in_ok-insert_universals.ensures.gains

pub returns-clause-shaped : goal.returns-clause-shaped
returns-clause-shaped c =
    shaped_gains c.args.problem.now _ _ _
    (shaped_gains c.args.problem.now _ _ _
    (empty_shaped (goal.at.returns-clause-shaped c).In_ok-values) c.in_ok-insert_universals.ensures.gains)
    c.in_ok-insert_bases.ensures.gains

pub returns-clause-exact : goal.returns-clause-exact
returns-clause-exact c =
    base_exact c.args.problem.now c.in_ok-values.values c.insert_universals.new.values c.insert_bases.new.values
    (λ r e h. nothing_held _ _ r e (subst (λ values. IsHeld values r e) c.in_ok-values.ensures h))
    c.in_ok-insert_universals.ensures.gains c.in_ok-insert_bases.ensures.gains
    c.in_ok-insert_universals.ensures.points c.in_ok-insert_universals.ensures.ends c.in_ok-insert_bases.ensures.covers
