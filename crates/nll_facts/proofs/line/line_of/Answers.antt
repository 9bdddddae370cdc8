use Rattle.nll_format.specs.Parts.{keyword}
use Rattle.nll_format.proofs.PartLemmas.{spells_more}
use Rattle.nll_facts.proofs.FormLemmas.{behind_base, behind_next, behind_constraint, behind_return}
use Rattle.nll_facts.proofs.line.line_of.Goals as goal

pub returns-in_err-name : goal.returns-in_err-name
returns-in_err-name c =
    rw c.from_residual.ensures (λ f h. (let r = behind_base _ _ f c.in-Some.ensures.begins h in
    c.in_err-name.ensures r.0 r.1))

pub returns-in-Some : goal.returns-in-Some
returns-in-Some c = spells_more _ _ (keyword _) _ c.in-Some.ensures.begins tt c.in_ok-name.ensures

pub returns-in_err-from : goal.returns-in_err-from
returns-in_err-from c =
    rw c.from_residual-in_err-from.ensures
    (λ f h. (let r = behind_next _ _ f c.in-Some-after_word.ensures.begins h in c.in_err-from.ensures r.0 r.1))

pub returns-in-Some-after_word : goal.returns-in-Some-after_word
returns-in-Some-after_word c = spells_more _ _ (keyword _) _ c.in-Some-after_word.ensures.begins tt c.in_ok-from.ensures

pub returns-in_err-sup : goal.returns-in_err-sup
returns-in_err-sup c =
    rw c.from_residual-in_err-sup.ensures
    (λ f h. (let r = behind_constraint _ _ f c.in-Some-after_word-2.ensures.begins h in c.in_err-sup.ensures r.0 r.1))

pub returns-in-Some-after_word-2 : goal.returns-in-Some-after_word-2
returns-in-Some-after_word-2 c =
    spells_more _ _ (keyword _) _ c.in-Some-after_word-2.ensures.begins tt c.in_ok-sup.ensures

pub returns-in_err-number : goal.returns-in_err-number
returns-in_err-number c =
    rw c.from_residual-in_err-number.ensures
    (λ f h. (let r = behind_return _ _ f c.in-Some-after_word-3.ensures.begins h in c.in_err-number.ensures r.0 r.1))

pub returns-in-Some-after_word-3 : goal.returns-in-Some-after_word-3
returns-in-Some-after_word-3 c =
    spells_more _ _ (keyword _) _ c.in-Some-after_word-3.ensures.begins tt c.in_ok-number.ensures

pub rare_line_of-requires-clause-base : goal.rare_line_of-requires-clause-base
rare_line_of-requires-clause-base c = c.in_default.ensures.begins

pub rare_line_of-requires-clause-next : goal.rare_line_of-requires-clause-next
rare_line_of-requires-clause-next c = c.in_default-after_word.ensures.begins

pub rare_line_of-requires-clause-constraint : goal.rare_line_of-requires-clause-constraint
rare_line_of-requires-clause-constraint c = c.in_default-after_word-2.ensures.begins

pub rare_line_of-requires-clause-returning : goal.rare_line_of-requires-clause-returning
rare_line_of-requires-clause-returning c = c.in_default-after_word-3.ensures.begins
