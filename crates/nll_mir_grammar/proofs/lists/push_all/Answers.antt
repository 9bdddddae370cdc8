use Rattle.std.proofs.Common.{ℕ, List, Some, None, refl}
use Rattle.std.specs.Borrow.{Bor}
use Rattle.nll_text.specs.Tokens.{sign}
use Rattle.nll_text.specs.LineTokens.{tokens_in}
use Rattle.nll_mir_grammar.proofs.GrammarLemmas.{behind_other}
use Rattle.nll_mir_grammar.proofs.ListLemmas.{commas_none, put_behind, put_first, put_fewer, put_next, put_last}
use Rattle.nll_mir_grammar.proofs.lists.push_all.Goals as goal

pub returns-in_default : goal.returns-in_default
returns-in_default g c = let none = rw c.in_default.is at c.in_ok-first.ensures in
    commas_none g.T.Listed.grammar c.requires.comma _ none.0

pub loop-behind-init : goal.loop-behind-init
loop-behind-init g c =
    put_first g.T.Listed.grammar g.T.Listed.meant (λ r. tokens_in r.now) _ _ _ c.in-Some.first c.requires.empty
    (rw c.in-Some.is at c.in_ok-first.ensures)

pub loop-behind-smaller : goal.loop-behind-smaller
loop-behind-smaller g c =
    put_fewer g.T.Listed.grammar g.T.Listed.meant (λ r. tokens_in r.now) _ _ _ c.in-Some-2.following
    (put_behind g.T.Listed.grammar (sign 44) g.T.Listed.meant (λ r. tokens_in r.now) _ _ _ _
    (Some c.in-Some-2.following) c.in-Some-after_sign.ensures (rw c.in-Some-2.is at c.in_ok-following.ensures))

pub loop-behind-preserved : goal.loop-behind-preserved
loop-behind-preserved g c =
    put_next g.T.Listed.grammar g.T.Listed.meant (λ r. tokens_in r.now) _ _ _ _ c.in-Some-2.following
    c.loop-behind.invariant
    (put_behind g.T.Listed.grammar (sign 44) g.T.Listed.meant (λ r. tokens_in r.now) _ _ _ _
    (Some c.in-Some-2.following) c.in-Some-after_sign.ensures (rw c.in-Some-2.is at c.in_ok-following.ensures))

pub returns-in_default-2 : goal.returns-in_default-2
returns-in_default-2 g c =
    put_last g.T.Listed.grammar g.T.Listed.meant (λ (r : Bor (List ℕ)). tokens_in r.now) _ _ _ _
    c.loop-behind.invariant
    (put_behind g.T.Listed.grammar (sign 44) g.T.Listed.meant (λ (r : Bor (List ℕ)). tokens_in r.now) _ _ _ _
    None c.in-Some-after_sign.ensures (rw c.in_default-2.is at c.in_ok-following.ensures))

pub returns : goal.returns
returns g c =
    put_last g.T.Listed.grammar g.T.Listed.meant (λ (r : Bor (List ℕ)). tokens_in r.now) _ _ _ _
    c.loop-behind.invariant (behind_other g.T.Listed.grammar (sign 44) _ c.in_default-after_sign.ensures, refl)
