use Rattle.std.proofs.Common.{sym, refl}
use Rattle.std.specs.Prelude.{◌&&◌}
use Rattle.nll_body.proofs.MeetingLemmas.{agree_found, judged_as, unfit_left, unfit_right}
use Rattle.nll_body.proofs.found.agree.Goals as goal

pub returns-in-Some-shape-clause-judged : goal.returns-in-Some-shape-clause-judged
returns-in-Some-shape-clause-judged c = λ t u p q x y.
    agree_found c.args.shapes.now c.in-Some.shape c.in-Some-shape.other_shape _ _ t u p q c.is_same-fits.result
    (rw c.in-Some.is at x) (rw c.in-Some-shape.is at y) c.is_same-fits.ensures _ refl refl

pub returns-in-None-shape-clause-judged : goal.returns-in-None-shape-clause-judged
returns-in-None-shape-clause-judged c =
    λ t u p q x y. judged_as (sym (unfit_right _ t u _ q (rw c.in-None-shape.is at y))) refl
    (c.unfit.ensures.judged (p && q))

pub returns-in-None-clause-judged : goal.returns-in-None-clause-judged
returns-in-None-clause-judged c =
    λ t u p q x y. judged_as (sym (unfit_left _ t u _ p (rw c.in-None.is at x))) refl
    (c.unfit-in-None.ensures.judged (p && q))
