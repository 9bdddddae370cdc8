use Rattle.std.proofs.Common.{◌∙◌, sym, rules}
use Rattle.std.proofs.lemmas.Bool.{false≢true}
use Rattle.nll_text.proofs.WordLemmas.{sign_there}
use Rattle.nll_text.proofs.front.after_sign.Goals as goal
use Rattle.nll_text.proofs.front.after_sign.Goals.{in_default-via-then-behind_gap-lt1, in_default-via-in-len1-up+then-first-sign+else-not-is_arrow, in_default-via-in-len1-up+else-first-sign}

pub returns-in_default : goal.returns-in_default
returns-in_default c rest e =
    let core = c.behind_gap.result.now in
    let h = sign_there core c.behind_gap.ensures.solid c.args.sign rest (c.behind_gap.ensures.tokens ∙ e) in
    elim c.in_default.branch [
      | in_default-via-then-behind_gap-lt1 w ↦ search rules
      | in_default-via-in-len1-up+then-first-sign+else-not-is_arrow w ↦
          false≢true (sym h.whole ∙ sym w.is_arrow.ensures ∙ w.if-not-is_arrow.false)
      | in_default-via-in-len1-up+else-first-sign w ↦ search rules
    ]
