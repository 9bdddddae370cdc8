use Rattle.std.proofs.Common.{refl, arith, rules}
use Rattle.std.specs.Prelude.{codes}
use Rattle.nll_text.proofs.WordLemmas.{prefixed_read, by_second}
use Rattle.nll_mir_grammar.proofs.WordLemmas.{block_there}
use Rattle.nll_mir_grammar.proofs.words.block_at.Goals as goal
use Rattle.nll_mir_grammar.proofs.words.block_at.Goals.{in_default-via-then-behind_gap-lt2, in_default-via-else-behind_gap-lt2+in-98+in_default-1, in_default-via-else-behind_gap-lt2+in_default-1}

pub returns-in-98 : goal.returns-in-98
returns-in-98 c =
    let core = c.behind_gap.result.now in
    prefixed_read (codes "bb") _ core _ (refl, (refl, tt))
    (by_second core 98 98 (omega arith) (omega arith) (omega arith))
    c.behind_gap.ensures.solid c.behind_gap.ensures.tokens _ c.number_in_front.ensures

pub returns-in_default : goal.returns-in_default
returns-in_default c n r b =
    let h = block_there c.behind_gap.result.now c.behind_gap.ensures.solid _ c.behind_gap.ensures.tokens n r b in
    elim c.in_default.branch [
      | in_default-via-then-behind_gap-lt2 w ↦ search rules
      | in_default-via-else-behind_gap-lt2+in-98+in_default-1 w ↦ search rules
      | in_default-via-else-behind_gap-lt2+in_default-1 w ↦ search rules
    ]
