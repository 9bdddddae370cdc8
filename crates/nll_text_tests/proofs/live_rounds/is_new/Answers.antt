use Rattle.std.proofs.Common.{◌∙◌, sym}
use Rattle.std.proofs.lemmas.Bool.{false≢true, false_from_ne_true}
use Rattle.nll_text_tests.proofs.live_rounds.is_new.Goals as goal

pub returns-then-is_flagged : goal.returns-then-is_flagged
returns-then-is_flagged c = (
  λ h. absurd (false≢true h),
  λ new. absurd (false≢true (sym new.0 ∙ c.is_flagged.ensures.0 c.if-is_flagged.true)),
)

pub returns : goal.returns
returns c = (
  λ h. (
    false_from_ne_true _ (λ on. false≢true (sym c.if-is_flagged.false ∙ c.is_flagged.ensures.1 on)),
    c.goes_on.ensures.0 h,
  ),
  λ new. c.goes_on.ensures.1 new.1,
)
