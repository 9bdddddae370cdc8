use Rattle.std.proofs.Common.{sym, refl}
use Rattle.std.specs.Prelude.{◌&&◌}
use Rattle.nll_body.proofs.MeetingLemmas.{no_reference, reference_found, judged_as, unfit_left, unfit_right}
use Rattle.nll_body.proofs.found.refers.Goals as goal

pub returns-in-Some-shape-clause-judged : goal.returns-in-Some-shape-clause-judged
returns-in-Some-shape-clause-judged c = λ t u r p q x y.
    reference_found c.args.shapes.now c.in-Some.target c.in-Some-shape.shape _ _ t u r c.args.mutable p q
    c.is_reference-fits.result (rw c.in-Some.is at x)
    (rw c.in-Some-shape.is at y) c.is_reference-fits.ensures _ refl refl

pub returns-in-None-shape-clause-judged : goal.returns-in-None-shape-clause-judged
returns-in-None-shape-clause-judged c =
    λ t u r p q x y. judged_as (sym (unfit_right _ _ u _ q (rw c.in-None-shape.is at y))) refl
    (c.unfit.ensures.judged (p && q))

pub returns-in-None-clause-judged : goal.returns-in-None-clause-judged
returns-in-None-clause-judged c =
    λ t u r p q x y. judged_as
    (sym (unfit_left _ _ u _ p (no_reference _ t _ p c.args.mutable r (rw c.in-None.is at x))))
    refl (c.unfit-in-None.ensures.judged (p && q))
