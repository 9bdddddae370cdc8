use Rattle.nll_text.proofs.TokenLemmas.{gap_has_none}
use Rattle.nll_mir_grammar.proofs.light.last_variable.Goals as goal

pub returns-then-is_gap-clause-alone : goal.returns-then-is_gap-clause-alone
returns-then-is_gap-clause-alone c =
    rw (gap_has_none c.in_ok-variable.rest.now (c.is_gap.ensures.0 c.if-is_gap.true)) at c.in_ok-variable.ensures.joined
