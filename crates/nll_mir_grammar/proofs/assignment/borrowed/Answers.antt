use Rattle.std.proofs.Common.{rules}
use Rattle.nll_mir_grammar.proofs.KindLemmas.{no_borrow}
use Rattle.nll_mir_grammar.proofs.LineLemmas.{borrow_side}
use Rattle.nll_mir_grammar.proofs.assignment.borrowed.Goals as goal

pub returns-in_default : goal.returns-in_default
returns-in_default c = λ ts e. no_borrow ts _ e (search rules)

pub returns-in_default-2 : goal.returns-in_default-2
returns-in_default-2 c =
    let none = rw c.in_default-2.is at c.in_ok-source.ensures in λ ts e. no_borrow ts _ e (search rules)

pub returns : goal.returns
returns c = let found = rw c.in-Some-2.is at c.in_ok-source.ensures in
    λ ts e. borrow_side ts _ _ _ _ _ _ e (search rules)
