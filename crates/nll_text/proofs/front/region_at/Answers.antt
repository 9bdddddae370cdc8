use Rattle.std.proofs.Common.{◌∙◌, sym, arith, rules}
use Rattle.nll_text.proofs.ByteLemmas.{positive}
use Rattle.nll_text.proofs.WordLemmas.{shorter_region, by_first, region_there, region_found}
use Rattle.nll_text.proofs.front.region_at.Goals as goal
use Rattle.nll_text.proofs.front.region_at.Goals.{in_default-via-then-behind_gap-lt1, in_default-via-else-behind_gap-lt1+in_default-1}

pub returns-in_default-clause-begins : goal.returns-in_default-clause-begins
returns-in_default-clause-begins c name r b =
    let core = c.behind_gap.result.now in
    let h = region_there core c.behind_gap.ensures.solid name r (c.behind_gap.ensures.tokens ∙ b.joined) in
    elim c.in_default.branch [
      | in_default-via-then-behind_gap-lt1 w ↦ search rules
      | in_default-via-else-behind_gap-lt1+in_default-1 w ↦ search rules
    ]

pub returns-clause-begins : goal.returns-clause-begins
returns-clause-begins c =
    let core = c.behind_gap.result.now in
    region_found core _ _ _ _ c.behind_gap.ensures.tokens (by_first core 39 (omega arith) (omega arith))
    c.split_word.ensures (positive _ (sym c.if-is_empty.ensures))

pub returns-clause-shorter : goal.returns-clause-shorter
returns-clause-shorter c =
    shorter_region c.args.line.now c.behind_gap.result.now c.behind_gap.ensures.cut _ _ _
    (by_first c.behind_gap.result.now 39 (omega arith) (omega arith)) c.split_word.ensures
