use Rattle.std.proofs.Common.{[], refl}
use Rattle.nll_text.proofs.WordLemmas.{prefixed_read, shorter_number}
use Rattle.nll_text.proofs.front.number_at.Goals as goal

pub returns-clause-begins : goal.returns-clause-begins
returns-clause-begins c =
    prefixed_read [] _ c.behind_gap.result.now _ tt refl c.behind_gap.ensures.solid c.behind_gap.ensures.tokens _
    c.number_in_front.ensures

pub returns-clause-shorter : goal.returns-clause-shorter
returns-clause-shorter c =
    shorter_number c.args.line.now c.behind_gap.result.now c.behind_gap.ensures.cut _ c.number_in_front.ensures
