use Rattle.std.proofs.Common.{arith, rules}
use Rattle.nll_text.specs.LineTokens.{tokens_in}
use Rattle.nll_mir_grammar.specs.Lines.{form_of}
use Rattle.nll_mir_grammar.proofs.LineLemmas.{read_keyword_line, read_assignment}
use Rattle.nll_mir_grammar.proofs.WordLemmas.{marked, unmarked}
use Rattle.nll_mir_grammar.proofs.form_reader.line_at.Goals as goal
use Rattle.nll_mir_grammar.proofs.form_reader.line_at.Goals.{then-core-lt1, else-core-lt1+in_default-1}

pub returns-in-95 : goal.returns-in-95
returns-in-95 c = rw c.behind_gap-core.ensures.tokens at
    (read_assignment _ (λ p. form_of p.0) (λ p. tokens_in p.1.now) _
    (marked c.behind_gap-core.result.now c.behind_gap-core.ensures.solid (omega arith)) c.assignment_at.ensures)

pub returns-in-Break : goal.returns-in-Break
returns-in-Break c = rw c.behind_gap-core.ensures.tokens at
    (read_keyword_line _ _ _ (λ p. form_of p.0) (λ p. tokens_in p.1.now) _ c.in-Break.ensures c.line_behind.ensures)

pub returns-in-Continue : goal.returns-in-Continue
returns-in-Continue c = rw c.behind_gap-core.ensures.tokens at
    (unmarked c.behind_gap-core.result.now c.behind_gap-core.ensures.solid
    (λ h. elim c.if-core-lt1.branch [
      | then-core-lt1 w ↦ search rules
      | else-core-lt1+in_default-1 w ↦ search rules
    ]) c.in-Continue.ensures)
