use Rattle.std.proofs.Common.{true, false, sym, subst, ◌∙◌}
use Rattle.std.proofs.lemmas.Bool.{false≢true}
use Rattle.std.proofs.lemmas.Result.{on_ok_weaker, IfErr-weaker}
use Rattle.nll_format.specs.Lines.{TakesIn, TurnsDown}
use Rattle.nll_format.specs.declared.error.TextKind.TheVariants.{Duplicate}
use Rattle.nll_tests.specs.EndTexts.{end_texts, Tells}
use Rattle.nll_tests.proofs.EndTextLemmas.{passed, no_line, first_end, second_end}
use Rattle.nll_tests.proofs.end_texts.EndsLineReaderUnit.read_line.Goals as goal

pub returns-then-not-is_end-clause-taken : goal.returns-then-not-is_end-clause-taken
returns-then-not-is_end-clause-taken c = on_ok_weaker c.pass_over.result (passed _ _) c.pass_over.ensures.ok

pub returns-then-not-is_end-clause-refused : goal.returns-then-not-is_end-clause-refused
returns-then-not-is_end-clause-refused c =
    IfErr-weaker c.pass_over.result _ _
    (λ kind. no_line _ _ kind (λ h. false≢true (sym c.if-not-is_end.true ∙ c.is_end.ensures.1 h)))
    c.pass_over.ensures.fault

pub returns-then-self-clause-refused : goal.returns-then-self-clause-refused
returns-then-self-clause-refused c =
    subst (λ has_end. TurnsDown end_texts (Tells has_end) c.args.line.now Duplicate) (sym c.if-self.true)
    (subst (λ line. TurnsDown end_texts (Tells true) line Duplicate)
    (sym (c.is_end.ensures.0 c.if-not-is_end.false)) second_end)

pub returns-clause-taken : goal.returns-clause-taken
returns-clause-taken c =
    subst (λ has_end. TakesIn end_texts (Tells has_end) (Tells true) c.args.line.now) (sym c.if-self.false)
    (subst (TakesIn end_texts (Tells false) (Tells true)) (sym (c.is_end.ensures.0 c.if-not-is_end.false)) first_end)
