use Rattle.std.proofs.Common.{length}
use Rattle.nll_text.specs.LineTokens.{tokens_in}
use Rattle.nll_mir_grammar.specs.Parts.{block_names}
use Rattle.nll_mir_grammar.proofs.GrammarLemmas.{HasRead}
use Rattle.nll_mir_grammar.proofs.blocks.blocks_at.Given as goal

abbrev pub invariant-loop-block : goal.invariant-loop-block
invariant-loop-block l = HasRead block_names (tokens_in l.line) l.targets.items (tokens_in l.rest)

abbrev pub decreases-loop-block : goal.decreases-loop-block
decreases-loop-block l = length (tokens_in l.rest)
