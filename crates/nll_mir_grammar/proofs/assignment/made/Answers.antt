use Rattle.nll_mir_grammar.proofs.KindLemmas.{no_make}
use Rattle.nll_mir_grammar.proofs.LineLemmas.{make_side}
use Rattle.nll_mir_grammar.proofs.assignment.made.Goals as goal

pub returns-in_default : goal.returns-in_default
returns-in_default c = let none = rw c.in_default.is at c.in_ok-made.ensures in λ ts e. no_make ts _ e none

pub returns : goal.returns
returns c = let found = rw c.in-Some.is at c.in_ok-made.ensures in
    λ ts e. rw c.in_ok-new.ensures.ok (make_side ts _ _ _ _ _ e found)
