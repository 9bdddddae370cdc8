use Rattle.nll_text.specs.LineTokens.{tokens_in}
use Rattle.std.proofs.Common.{map}
use Rattle.std.specs.Prelude.{Ok}
use Rattle.nll_mir_grammar.specs.Parts as parts
use Rattle.nll_mir_grammar.proofs.GrammarLemmas.{pair_none, read_pair}
use Rattle.nll_mir_grammar.proofs.PartLemmas.{bound_lists_one}
use Rattle.nll_mir_grammar.proofs.KindLemmas.{bounds_join}
use Rattle.nll_mir_grammar.proofs.right.call_end_at.Goals as goal

pub returns-in_default : goal.returns-in_default
returns-in_default c = let none = rw c.in_default.is at c.in_ok-bounds.ensures in
    pair_none parts.bound_lists parts.exits bounds_join _ none

pub returns : goal.returns
returns c =
    let found = rw c.in-Some.is at c.in_ok-bounds.ensures in
    rw c.with.ensures
    (read_pair parts.bound_lists parts.exits bound_lists_one bounds_join _ _ c.in-Some.bounds
    (λ v. map (λ w. (w.0.now, w.1.now)) v.items) (λ e. e) (λ r. tokens_in r.now)
    (Ok c.exits_at.result) found c.exits_at.ensures)
