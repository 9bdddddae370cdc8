use Rattle.nll_format.specs.Parts.{keyword}
use Rattle.nll_format.proofs.PartLemmas.{spells_more}
use Rattle.nll_lists.proofs.LineLemmas.{behind_take, behind_push, behind_owe, behind_clear, behind_load, behind_leave, no_event_at}
use Rattle.nll_lists.proofs.event_line.line_of.Goals as goal

pub returns-in_err-owner : goal.returns-in_err-owner
returns-in_err-owner c =
    rw c.from_residual.ensures (λ e h. (let r = behind_take _ _ e c.in-Some.ensures.begins h in
    c.in_err-owner.ensures r.0 r.1))

pub returns-in-Some : goal.returns-in-Some
returns-in-Some c = spells_more _ _ (keyword _) _ c.in-Some.ensures.begins tt c.in_ok-owner.ensures

pub returns-in_err-owner-2 : goal.returns-in_err-owner-2
returns-in_err-owner-2 c =
    rw c.from_residual-in_err-owner-2.ensures
    (λ e h. (let r = behind_push _ _ e c.in-Some-after_word.ensures.begins h in c.in_err-owner-2.ensures r.0 r.1))

pub returns-in-Some-after_word : goal.returns-in-Some-after_word
returns-in-Some-after_word c =
    spells_more _ _ (keyword _) _ c.in-Some-after_word.ensures.begins tt c.in_ok-owner-2.ensures

pub returns-in_err-number : goal.returns-in_err-number
returns-in_err-number c =
    rw c.from_residual-in_err-number.ensures
    (λ e h. (let r = behind_owe _ _ e c.in-Some-after_word-2.ensures.begins h in c.in_err-number.ensures r.0 r.1))

pub returns-in-Some-after_word-2 : goal.returns-in-Some-after_word-2
returns-in-Some-after_word-2 c =
    spells_more _ _ (keyword _) _ c.in-Some-after_word-2.ensures.begins tt c.in_ok-number.ensures

pub returns-in_err-number-2 : goal.returns-in_err-number-2
returns-in_err-number-2 c =
    rw c.from_residual-in_err-number-2.ensures
    (λ e h. (let r = behind_clear _ _ e c.in-Some-after_word-3.ensures.begins h in c.in_err-number-2.ensures r.0 r.1))

pub returns-in-Some-after_word-3 : goal.returns-in-Some-after_word-3
returns-in-Some-after_word-3 c =
    spells_more _ _ (keyword _) _ c.in-Some-after_word-3.ensures.begins tt c.in_ok-number-2.ensures

pub returns-in_err-number-3 : goal.returns-in_err-number-3
returns-in_err-number-3 c =
    rw c.from_residual-in_err-number-3.ensures
    (λ e h. (let r = behind_load _ _ e c.in-Some-after_word-4.ensures.begins h in c.in_err-number-3.ensures r.0 r.1))

pub returns-in-Some-after_word-4 : goal.returns-in-Some-after_word-4
returns-in-Some-after_word-4 c =
    spells_more _ _ (keyword _) _ c.in-Some-after_word-4.ensures.begins tt c.in_ok-number-3.ensures

pub returns-in_err-number-4 : goal.returns-in_err-number-4
returns-in_err-number-4 c =
    rw c.from_residual-in_err-number-4.ensures
    (λ e h. (let r = behind_leave _ _ e c.in-Some-after_word-5.ensures.begins h in c.in_err-number-4.ensures r.0 r.1))

pub returns-in-Some-after_word-5 : goal.returns-in-Some-after_word-5
returns-in-Some-after_word-5 c =
    spells_more _ _ (keyword _) _ c.in-Some-after_word-5.ensures.begins tt c.in_ok-number-4.ensures

pub returns : goal.returns
returns c = no_event_at _ (record {
  take = c.in_default.ensures.begins;
  push = c.in_default-after_word.ensures.begins;
  owe = c.in_default-after_word-2.ensures.begins;
  clear = c.in_default-after_word-3.ensures.begins;
  load = c.in_default-after_word-4.ensures.begins;
  leave = c.in_default-after_word-5.ensures.begins;
})
