use Rattle.std.proofs.Common.{◌≡◌, ◌∙◌, ℕ, Bool, true, Option, Some, None, List, refl, sym}
use Rattle.std.specs.Prelude.{is_some}
use Rattle.nll_types.specs.Types.{TypeTree}
use Rattle.nll_types.specs.declared.node.Node.{Node}
use Rattle.nll_body.specs.Found.{IsShapeFound}
use Rattle.nll_body.proofs.MeetingLemmas.{is_none, judged_as}
use Rattle.nll_body.proofs.JudgedLemmas.{return_order}
use Rattle.nll_body.proofs.statement_judgement.judge_read.Goals as goal

some_found : (ns : List Node) (a : ℕ) (t : Option TypeTree) (f small : Bool) → IsShapeFound ns (Some a) f t small
    → true ≡ is_some t
some_found ns a None f small h = absurd (let z = h.shape in cc)
some_found ns a (Some t) f small h = refl

pub returns-in-Some-clause-judged : goal.returns-in-Some-clause-judged
returns-in-Some-clause-judged c = λ types f g h w.
    let found = (rw c.in-Some.is at c.in_ok-found.ensures.found) types h in
    judged_as (some_found _ _ _ _ _ found) (found.small ∙ return_order _) c.fitting.ensures.judged

pub returns-in-None-clause-judged : goal.returns-in-None-clause-judged
returns-in-None-clause-judged c = λ types f g h w.
    judged_as (sym (is_none _ _ _ _ ((rw c.in-None.is at c.in_ok-found.ensures.found) types h))) refl
    (c.unfit.ensures.judged _)
