use Rattle.std.proofs.Common.{rules}
use Rattle.nll_mir_grammar.proofs.WordLemmas.{word_first}
use Rattle.nll_mir_grammar.proofs.keyword.seek.Goals as goal
use Rattle.nll_mir_grammar.proofs.keyword.seek.Goals.{then-is_empty-via-then-is_empty, then-is_empty-via-else-is_empty+then-line-word}

pub returns-then-is_empty : goal.returns-then-is_empty
returns-then-is_empty c rest e =
    let h = word_first c.args.line.now c.requires.solid _ rest e in
    elim c.then-is_empty.branch [
      | then-is_empty-via-then-is_empty w ↦ search rules
      | then-is_empty-via-else-is_empty+then-line-word w ↦ search rules
    ]
