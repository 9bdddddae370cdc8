use Rattle.std.proofs.Common.{◌∙◌, rules}
use Rattle.nll_text.proofs.WordLemmas.{arrow_there}
use Rattle.nll_text.proofs.front.after_arrow.Goals as goal
use Rattle.nll_text.proofs.front.after_arrow.Goals.{in_default-via-then-behind_gap-lt2, in_default-via-else-behind_gap-lt2+in-45+in_default-1, in_default-via-else-behind_gap-lt2+in_default-1}

pub returns-in_default : goal.returns-in_default
returns-in_default c rest e =
    let h = arrow_there c.behind_gap.result.now c.behind_gap.ensures.solid rest (c.behind_gap.ensures.tokens ∙ e) in
    elim c.in_default.branch [
      | in_default-via-then-behind_gap-lt2 w ↦ search rules
      | in_default-via-else-behind_gap-lt2+in-45+in_default-1 w ↦ search rules
      | in_default-via-else-behind_gap-lt2+in_default-1 w ↦ search rules
    ]
