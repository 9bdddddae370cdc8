use Rattle.std.proofs.lemmas.Result.{on_ok_weaker}
use Rattle.nll_rules.proofs.PairLemmas.{adds_append}
use Rattle.nll_rules.proofs.row_signs.ask_pair.Goals as goal

pub returns-in-Covariant : goal.returns-in-Covariant
returns-in-Covariant c = rw c.in-Covariant.is c.push_new.ensures

pub returns-in-Contravariant : goal.returns-in-Contravariant
returns-in-Contravariant c = rw c.in-Contravariant.is c.push_new-in-Contravariant.ensures

pub returns-in_ok-push_new-in-Invariant : goal.returns-in_ok-push_new-in-Invariant
returns-in_ok-push_new-in-Invariant c =
    rw c.in-Invariant.is (on_ok_weaker c.push_new-in-Invariant-2.result
    (adds_append _ _ _ _ _ c.in_ok-push_new-in-Invariant.ensures) c.push_new-in-Invariant-2.ensures)
