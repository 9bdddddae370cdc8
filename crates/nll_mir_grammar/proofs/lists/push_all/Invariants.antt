use Rattle.std.proofs.Common.{length, map}
use Rattle.nll_text.specs.LineTokens.{tokens_in}
use Rattle.nll_mir_grammar.proofs.ListLemmas.{HasListed}
use Rattle.nll_mir_grammar.proofs.lists.push_all.Given as goal

abbrev pub invariant-loop-behind : goal.invariant-loop-behind
invariant-loop-behind g l =
    HasListed g.T.Listed.grammar (tokens_in l.line) (map g.T.Listed.meant l.values.items) (tokens_in l.rest)

abbrev pub decreases-loop-behind : goal.decreases-loop-behind
decreases-loop-behind g l = length (tokens_in l.rest)
