use Rattle.std.proofs.Common.{◌≡◌, ◌==◌, ℕ, ◌<◌, Bool, false, List, Contains, length, get_or, zero, suc, ap, sym, ◌∙◌, arith}
use Rattle.std.proofs.lemmas.Bool.{eqb-true, false≢true}
use Rattle.std.proofs.lemmas.List.{get_or_default}
use Rattle.nll_problem.specs.At.{at_rank}
use Rattle.nll_problem.specs.declared.at.At.TheVariants.{All, Point}
use Rattle.nll_problem.specs.declared.constraint.Constraint.{Constraint}
use Rattle.nll_core.specs.Walking.{PointsAscend}
use Rattle.nll_core.proofs.LedWalkLemmas.{first_everywhere}
use Rattle.nll_core.proofs.satisfaction.is_everywhere.Goals as goal

-- what is not 0 is above it
positive : (n : ℕ) (is : Bool) → is ≡ (n == 0) → is ≡ false → 0 < n
positive zero is e other = absurd (false≢true (sym other ∙ e))
positive (suc n) is e other = omega arith

-- where the first constraint holds at a point, none holds at all points
none_everywhere : (pair : List Constraint) (past : Constraint) (point : ℕ) → PointsAscend pair
    → (get_or pair 0 past).at ≡ Point point → (c : Constraint) → Contains pair c → c.at ≡ All → ⊥
none_everywhere pair past point ascending is c listed every =
    omega (arith, ap at_rank (sym (first_everywhere pair past ascending c listed every) ∙ is))

pub returns-then-is_empty-clause-none : goal.returns-then-is_empty-clause-none
returns-then-is_empty-clause-none c = λ told k h every.
    let empty : length c.args.pair.now ≡ 0 = eqb-true _ _ (sym c.is_empty.ensures ∙ c.if-is_empty.true) in
    absurd (omega (arith, empty, h.1))

-- where there is a first constraint, it holds at all points or none does
pub returns-in-All-clause-some : goal.returns-in-All-clause-some
returns-in-All-clause-some c = λ told.
    let some = positive (length c.args.pair.now) c.is_empty.result c.is_empty.ensures c.if-is_empty.false in
    (_, (0, some, get_or_default c.args.pair.now 0 _ _ some), c.in-All.is)

pub returns-in-Point-clause-none : goal.returns-in-Point-clause-none
returns-in-Point-clause-none c =
    λ told. none_everywhere c.args.pair.now _ c.in-Point.field-0 c.requires.ascending c.in-Point.is
