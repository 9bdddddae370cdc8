use Rattle.std.proofs.Common.{◌≡◌, ◌<◌, ◌≤◌, length, get_or, sym, subst}
use Rattle.nll_core.proofs.SolverLemmas.{rounding_first, rounding_more, rounding_closed, rounding_stays, shaped_gains}
use Rattle.nll_tests.proofs.rounds.round.Goals as goal
use Rattle.nll_tests.proofs.rounds.round.Goals.{After-apply}

pub loop-constraint-init : goal.loop-constraint-init
loop-constraint-init c = rounding_first c.args.problem.now c.args.values.now c.requires

pub apply-requires-clause-shaped : goal.apply-requires-clause-shaped
apply-requires-clause-shaped c = c.loop-constraint.invariant.shaped

within : (c : After-apply) → c.loop-constraint.constraint-index < length c.args.problem.now.constraints
within c =
    subst (λ xs. c.loop-constraint.constraint-index < length xs) c.constraints-constraint-items.ensures.value
    c.loop-constraint-test.true

is_item : (c : After-apply) → get_or c.args.problem.now.constraints c.loop-constraint.constraint-index
    c.constraint-item.result ≡ c.constraint-item.result
is_item c = sym (rw c.constraints-constraint-items.ensures.value at c.constraint-item.is)

pub returns-in_err-new-clause-shaped : goal.returns-in_err-new-clause-shaped
returns-in_err-new-clause-shaped c =
    shaped_gains c.args.problem.now _ _ _ c.loop-constraint.invariant.shaped c.apply.ensures.gains

pub returns-in_err-new-clause-kept : goal.returns-in_err-new-clause-kept
returns-in_err-new-clause-kept c = λ s e h. c.apply.ensures.gains.kept s e (c.loop-constraint.invariant.kept s e h)

pub returns-in_err-new-clause-below : goal.returns-in_err-new-clause-below
returns-in_err-new-clause-below c =
    let d = (goal.at.returns-in_err-new-clause-below c).After-apply in
    rounding_stays c.args.problem.now _ _ _ c.constraint-item.result c.loop-constraint.invariant.below
    (c.loop-constraint.constraint-index, within d, is_item d) c.apply.ensures.gains

pub loop-constraint-preserved : goal.loop-constraint-preserved
loop-constraint-preserved c =
    let d = (goal.at.loop-constraint-preserved c).After-apply in
    rounding_more c.args.problem.now _ _ _ _ _ _ c.constraint-item.result (within d)
    (is_item d) c.loop-constraint.invariant c.apply.ensures.gains c.in_ok-new.ensures.asks c.in_ok-new.ensures.tells

pub returns-clause-shaped : goal.returns-clause-shaped
returns-clause-shaped c = c.loop-constraint.invariant.shaped

pub returns-clause-kept : goal.returns-clause-kept
returns-clause-kept c = c.loop-constraint.invariant.kept

pub returns-clause-below : goal.returns-clause-below
returns-clause-below c = c.loop-constraint.invariant.below

pub returns-clause-tells : goal.returns-clause-tells
returns-clause-tells c = c.loop-constraint.invariant.tells

pub returns-clause-closed : goal.returns-clause-closed
returns-clause-closed c =
    rounding_closed c.args.problem.now _ _ _ _
    (subst (λ xs. length xs ≤ c.loop-constraint.constraint-index) c.constraints-constraint-items.ensures.value
    c.loop-constraint-test.false) c.loop-constraint.invariant
