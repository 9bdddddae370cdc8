use Rattle.std.proofs.Common.{map}
use Rattle.nll_text.specs.LineTokens.{tokens_in}
use Rattle.nll_text.specs.Tokens.{sign}
use Rattle.nll_mir_grammar.specs.TypeTexts.{written}
use Rattle.nll_mir_grammar.specs.Grammars.{pair}
use Rattle.nll_mir_grammar.specs.Kinds.{results}
use Rattle.nll_mir_grammar.specs.Lines.{result_of}
use Rattle.nll_mir_grammar.specs.Parts as parts
use Rattle.nll_mir_grammar.proofs.GrammarLemmas.{behind_none, pair_none, read_behind, read_pair}
use Rattle.nll_mir_grammar.proofs.PartLemmas.{types_one}
use Rattle.nll_mir_grammar.proofs.KindLemmas.{results_join}
use Rattle.nll_mir_grammar.proofs.right.result_behind.Goals as goal

pub returns-in_default-2 : goal.returns-in_default-2
returns-in_default-2 c =
    let none = rw c.in_default-2.is at c.in_ok-ty.ensures in
    behind_none results (sign 58) _ _ c.in-Some.ensures
    (pair_none parts.types (pair parts.bound_lists parts.exits) results_join _ none)

pub returns : goal.returns
returns c =
    let found = rw c.in-Some-2.is at c.in_ok-ty.ensures in
    rw c.with.ensures
    (read_behind results (sign 58) _ _ (λ p. result_of p.0) (λ p. tokens_in p.1.now) _ c.in-Some.ensures
    (read_pair parts.types (pair parts.bound_lists parts.exits) types_one results_join _ _ c.in-Some-2.ty written
    (λ e. (map (λ w. (w.0.now, w.1.now)) e.0.items, e.1))
    (λ r. tokens_in r.now) _ found c.call_end_at.ensures))
