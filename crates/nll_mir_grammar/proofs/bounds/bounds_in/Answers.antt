use Rattle.std.proofs.Common.{map}
use Rattle.nll_text.specs.LineTokens.{tokens_in}
use Rattle.nll_mir_grammar.proofs.PartLemmas.{read_bounds}
use Rattle.nll_mir_grammar.proofs.bounds.bounds_in.Goals as goal

pub returns-in-Some : goal.returns-in-Some
returns-in-Some c =
    read_bounds _ _ (λ p. map (λ w. (w.0.now, w.1.now)) p.0.items) (λ p. tokens_in p.1.now) _ c.in-Some.ensures.begins
    c.list.ensures
