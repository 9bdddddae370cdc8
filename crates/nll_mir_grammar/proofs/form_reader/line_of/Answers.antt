use Rattle.std.proofs.Common.{[], sym, ◌∙◌}
use Rattle.std.proofs.lemmas.Bool.{false≢true}
use Rattle.nll_text.proofs.TokenLemmas.{gap_has_none, in_make}
use Rattle.nll_mir_grammar.proofs.LineLemmas.{no_form, no_form_before, no_form_in, from_line}
use Rattle.nll_mir_grammar.proofs.MadeLemmas.{has_form, spells_form}
use Rattle.nll_mir_grammar.proofs.form_reader.line_of.Goals as goal

pub returns-in_default : goal.returns-in_default
returns-in_default c =
    let none = rw c.in_default.is at c.in_ok-form.ensures in
    λ f h. no_form _ none f (spells_form c.args.line.now f h.0)

pub returns-then-not-is_gap : goal.returns-then-not-is_gap
returns-then-not-is_gap c =
    let found = rw c.in-Some.is at c.in_ok-form.ensures in
    λ f h. no_form_before _ _ _ found
    (λ e. false≢true (sym c.if-not-is_gap.true ∙ c.is_gap.ensures.1 (in_make [] _ e tt)))
    f (spells_form c.args.line.now f h.0)

pub returns-then-not-is_of_version : goal.returns-then-not-is_of_version
returns-then-not-is_of_version c =
    let found = rw c.in-Some.is at c.in_ok-form.ensures in
    let end = rw (gap_has_none c.in-Some.rest.now (c.is_gap.ensures.0 c.if-not-is_gap.false)) at found in
    λ f h. no_form_in c.args.version _ _ (from_line _ _ end)
    (sym c.is_of_version.ensures ∙ c.if-not-is_of_version.true) f (spells_form c.args.line.now f h.0, h.1)

pub returns : goal.returns
returns c =
    let found = rw c.in-Some.is at c.in_ok-form.ensures in
    let end = rw (gap_has_none c.in-Some.rest.now (c.is_gap.ensures.0 c.if-not-is_gap.false)) at found in
    (has_form c.args.line.now _ (from_line _ _ end), sym c.is_of_version.ensures ∙ c.if-not-is_of_version.false)
