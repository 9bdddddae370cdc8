use Rattle.std.proofs.Common.{inl, inr, refl, sym, ◌∙◌}
use Rattle.std.proofs.lemmas.Bool.{false≢true}
use Rattle.std.proofs.lemmas.Result.{err_from_is_err_and}
use Rattle.nll_text.specs.Lines.{lines_left}
use Rattle.nll_format.proofs.header.open_text.Goals as goal

pub returns-in_err-header-clause-fault : goal.returns-in_err-header-clause-fault
returns-in_err-header-clause-fault c =
    let p = err_from_is_err_and c.from_residual.result c.from_residual.ensures.1 in
    rw (p.1, p.2) (inl c.in_err-header.ensures.fault)

pub returns-then-not-is_header-clause-fault : goal.returns-then-not-is_header-clause-fault
returns-then-not-is_header-clause-fault c = inr (
  refl,
  c.in_ok-header.header.now,
  lines_left c.in_ok-header.body,
  c.in_ok-header.ensures.cut,
  c.in_ok-header.ensures.utf8,
  λ h. false≢true (sym c.if-not-is_header.true ∙ c.is_header.ensures.1 h),
)

pub returns-clause-ok : goal.returns-clause-ok
returns-clause-ok c = record {
  header = c.in_ok-header.header.now;
  cut = c.in_ok-header.ensures.cut;
  utf8 = c.in_ok-header.ensures.utf8;
  is_header = c.is_header.ensures.0 c.if-not-is_header.false;
}
