use Rattle.nll_rules.specs.Pairs.{AddsPairs}
use Rattle.nll_rules.proofs.PairLemmas.{AtOneBelow}
use Rattle.nll_rules.proofs.RowSignLemmas.{AskedAt}
use Rattle.nll_rules.proofs.row_signs.ask_rows.Given as goal

abbrev pub invariant-loop-place : goal.invariant-loop-place
invariant-loop-place l =
    AddsPairs (AtOneBelow l.place (AskedAt l.signs l.one l.other)) l.fn.asked.items l.asked.items
