use Rattle.std.proofs.Common.{sym}
use Rattle.std.proofs.lemmas.Bool.{eqb-true}
use Rattle.nll_text.proofs.ByteLemmas.{positive}
use Rattle.nll_text.proofs.WordLemmas.{no_word, word_found}
use Rattle.nll_text.proofs.front.word_at.Goals as goal

pub returns-then-is_empty : goal.returns-then-is_empty
returns-then-is_empty c =
    no_word _ _ _ _ c.behind_gap.ensures.tokens c.behind_gap.ensures.solid c.split_word.ensures
    (eqb-true _ _ (sym c.if-is_empty.ensures))

pub returns : goal.returns
returns c =
    word_found _ _ _ _ c.behind_gap.ensures.tokens c.split_word.ensures
    (positive _ (sym c.if-is_empty.ensures))
