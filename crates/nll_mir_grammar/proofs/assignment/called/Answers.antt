use Rattle.nll_mir_grammar.specs.Kinds.{signatures}
use Rattle.nll_text.specs.Grammars.{any_words}
use Rattle.nll_mir_grammar.proofs.GrammarLemmas.{pair_none, pair_none_behind}
use Rattle.nll_mir_grammar.proofs.PartLemmas.{any_words_one, words_join}
use Rattle.nll_mir_grammar.proofs.KindLemmas.{no_call}
use Rattle.nll_mir_grammar.proofs.LineLemmas.{call_side}
use Rattle.nll_mir_grammar.proofs.assignment.called.Goals as goal

pub returns-in_default : goal.returns-in_default
returns-in_default c =
    λ ts e. no_call ts _ e (pair_none any_words signatures (words_join signatures) _ c.in_default.ensures)

pub returns-in_default-2 : goal.returns-in_default-2
returns-in_default-2 c =
    let none = rw c.in_default-2.is at c.in_ok-signature.ensures in
    λ ts e. no_call ts _ e (pair_none_behind any_words signatures any_words_one
    (words_join signatures) _ _ _ c.in-Some.ensures none)

pub returns : goal.returns
returns c = let found = rw c.in-Some-2.is at c.in_ok-signature.ensures in
    λ ts e. rw c.in_ok-new.ensures.ok (call_side ts _ _ _ _ _ _ _ _ _ _ e c.in-Some.ensures found)
