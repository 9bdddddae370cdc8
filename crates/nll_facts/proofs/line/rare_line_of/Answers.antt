use Rattle.nll_format.specs.Parts.{keyword}
use Rattle.nll_format.proofs.PartLemmas.{spells_more}
use Rattle.nll_facts.proofs.FormLemmas.{behind_region, behind_outlives, behind_universal, behind_points, behind_end, no_form_at}
use Rattle.nll_facts.proofs.line.rare_line_of.Goals as goal

pub returns-in_err-region : goal.returns-in_err-region
returns-in_err-region c =
    rw c.from_residual.ensures (λ f h. (let r = behind_region _ _ f c.in-Some.ensures.begins h in
    c.in_err-region.ensures r.0 r.1))

pub returns-in-Some : goal.returns-in-Some
returns-in-Some c = spells_more _ _ (keyword _) _ c.in-Some.ensures.begins tt c.in_ok-region.ensures

pub returns-in_err-longer : goal.returns-in_err-longer
returns-in_err-longer c =
    rw c.from_residual-in_err-longer.ensures
    (λ f h. (let r = behind_outlives _ _ f c.in-Some-after_word.ensures.begins h in c.in_err-longer.ensures r.0 r.1))

pub returns-in-Some-after_word : goal.returns-in-Some-after_word
returns-in-Some-after_word c =
    spells_more _ _ (keyword _) _ c.in-Some-after_word.ensures.begins tt c.in_ok-longer.ensures

pub returns-in_err-region-2 : goal.returns-in_err-region-2
returns-in_err-region-2 c =
    rw c.from_residual-in_err-region-2.ensures
    (λ f h. (let r = behind_universal _ _ f c.in-Some-after_word-2.ensures.begins h in
    c.in_err-region-2.ensures r.0 r.1))

pub returns-in-Some-after_word-2 : goal.returns-in-Some-after_word-2
returns-in-Some-after_word-2 c =
    spells_more _ _ (keyword _) _ c.in-Some-after_word-2.ensures.begins tt c.in_ok-region-2.ensures

pub returns-in_err-number : goal.returns-in_err-number
returns-in_err-number c =
    rw c.from_residual-in_err-number.ensures
    (λ f h. (let r = behind_points _ _ f c.in-Some-after_word-3.ensures.begins h in c.in_err-number.ensures r.0 r.1))

pub returns-in-Some-after_word-3 : goal.returns-in-Some-after_word-3
returns-in-Some-after_word-3 c =
    spells_more _ _ (keyword _) _ c.in-Some-after_word-3.ensures.begins tt c.in_ok-number.ensures

pub returns-in_err-nothing : goal.returns-in_err-nothing
returns-in_err-nothing c =
    rw c.from_residual-in_err-nothing.ensures
    (λ f h. (c.in_err-nothing.ensures tt (behind_end _ _ f c.in-Some-after_word-4.ensures.begins h)))

pub returns-in-Some-after_word-4 : goal.returns-in-Some-after_word-4
returns-in-Some-after_word-4 c =
    spells_more _ _ (keyword _) _ c.in-Some-after_word-4.ensures.begins tt c.in_ok-nothing.ensures

pub returns : goal.returns
returns c = no_form_at _
    (record {
      base = c.requires.base;
      next = c.requires.next;
      constraint = c.requires.constraint;
      return = c.requires.returning;
    })
    (record {
      region = c.in_default.ensures.begins;
      outlives = c.in_default-after_word.ensures.begins;
      universal = c.in_default-after_word-2.ensures.begins;
      points = c.in_default-after_word-3.ensures.begins;
      end = c.in_default-after_word-4.ensures.begins;
    })
