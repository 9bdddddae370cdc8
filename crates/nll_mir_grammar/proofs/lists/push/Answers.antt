use Rattle.nll_text.specs.LineTokens.{tokens_in}
use Rattle.nll_mir_grammar.proofs.ListLemmas.{put_found}
use Rattle.nll_mir_grammar.proofs.lists.push.Goals as goal

pub returns-in_ok-put-in-Some : goal.returns-in_ok-put-in-Some
returns-in_ok-put-in-Some g c = let found = rw c.in-Some.is at c.in_ok-value.ensures in
    put_found g.T.Listed.grammar g.T.Listed.meant
    (λ r. tokens_in r.now) _ _ _ c.in-Some.value c.in-Some.rest c.in_ok-put-in-Some.ensures found
