use Rattle.std.proofs.Common.{refl, inl, inr, sym, ◌∙◌, ⊎_elim}
use Rattle.std.proofs.lemmas.Result.{err_from_is_err_and, on_ok_weaker, IfErr-weaker}
use Rattle.nll_format.specs.Text.{of_form, at_form}
use Rattle.nll_format.specs.Reading.{skips, reads}
use Rattle.nll_format.proofs.LinesLemmas.{takes_in, turns_down}
use Rattle.nll_format.proofs.ListingLemmas.{passes, formless}
use Rattle.nll_facts.specs.FactsReading.{AddsFacts, SameSaid}
use Rattle.nll_facts.specs.FactsText.{facts}
use Rattle.nll_facts.proofs.FormLemmas.{form_utf8, form_kept, texts_in}
use Rattle.nll_facts.proofs.SaidLemmas.{adds_said, same_fault}
use Rattle.nll_facts.proofs.VersionLemmas.{other_version}
use Rattle.nll_facts.proofs.reader.ReaderLineReaderVersion.read_line.Goals as goal

pub accept-requires-clause-texts : goal.accept-requires-clause-texts
accept-requires-clause-texts c = texts_in _ _ (c.in-Some.ensures)

pub returns-then-not-is_of_version-clause-refused : goal.returns-then-not-is_of_version-clause-refused
returns-then-not-is_of_version-clause-refused c =
    let form = c.in-Some.ensures in
    let version = c.args.version.now in
    turns_down (facts version) SameSaid same_fault _ _ _
    (inr (other_version version _ _ _ _ (form_utf8 _ _ form) (form_kept _ _ form) form refl
    (sym c.is_of_version.ensures ∙ c.if-not-is_of_version.true)))

pub returns-in_err-accept-clause-refused : goal.returns-in_err-accept-clause-refused
returns-in_err-accept-clause-refused c =
    let form = c.in-Some.ensures in
    let p = err_from_is_err_and c.from_residual.result c.from_residual.ensures.1 in
    rw (p.1, p.2) (turns_down (facts c.args.version.now) SameSaid same_fault _ _ _
    (⊎_elim inl (λ fault. inr (at_form _ _ (form_utf8 _ _ form) (form_kept _ _ form)
    (form, sym c.is_of_version.ensures ∙ c.if-not-is_of_version.false) fault)) c.in_err-accept.ensures.refused))

pub returns-clause-taken : goal.returns-clause-taken
returns-clause-taken c =
    let form = c.in-Some.ensures in
    takes_in (facts c.args.version.now) SameSaid same_fault AddsFacts adds_said _ _ _
    (reads _ (of_form _ (form_utf8 _ _ form) (form_kept _ _ form)
    (form, sym c.is_of_version.ensures ∙ c.if-not-is_of_version.false) c.in_ok-accept.ensures.taken.fine)
    c.in_ok-accept.ensures.taken.adds)

pub returns-in_default-clause-taken : goal.returns-in_default-clause-taken
returns-in_default-clause-taken c =
    on_ok_weaker c.pass_over.result (λ h. takes_in (facts c.args.version.now) SameSaid same_fault AddsFacts adds_said _
    _ _
    (skips (passes (facts c.args.version.now) _ _ h) refl)) c.pass_over.ensures.ok

pub returns-in_default-clause-refused : goal.returns-in_default-clause-refused
returns-in_default-clause-refused c =
    IfErr-weaker c.pass_over.result _ _
    (λ kind wrong. turns_down (facts c.args.version.now) SameSaid same_fault _ _ _
    (inr (formless (facts c.args.version.now) _ _ kind (λ f h. c.in_default.ensures f h.0) wrong)))
    c.pass_over.ensures.fault
