use Rattle.std.proofs.Common.{length}
use Rattle.nll_text.specs.LineTokens.{tokens_in}
use Rattle.nll_mir_grammar.specs.Parts.{projections}
use Rattle.nll_mir_grammar.proofs.GrammarLemmas.{HasRead}
use Rattle.nll_mir_grammar.proofs.place.part_at.Given as goal

abbrev pub invariant-loop-another : goal.invariant-loop-another
invariant-loop-another l = HasRead projections (tokens_in l.behind) l.projections.items (tokens_in l.end)

abbrev pub decreases-loop-another : goal.decreases-loop-another
decreases-loop-another l = length (tokens_in l.end)
