use Rattle.std.proofs.Common.{◌+◌, ◌*◌, length, []}
use Rattle.nll_text.specs.LineTokens.{tokens_in}
use Rattle.nll_mir_grammar.specs.WrittenTypes.{int}
use Rattle.nll_mir_grammar.specs.OpenTypes.{ReachesFrames, pending}
use Rattle.nll_mir_grammar.specs.declared.opens.State.TheVariants.{Want}
use Rattle.nll_mir_grammar.proofs.type_reader.read_pieces.Given as goal

abbrev pub invariant-loop-opened : goal.invariant-loop-opened
invariant-loop-opened l =
    ReachesFrames Want [] int (tokens_in l.line) l.state l.pieces.items l.opened.items (tokens_in l.rest)

abbrev pub decreases-loop-opened : goal.decreases-loop-opened
decreases-loop-opened l = length l.opened.items + pending l.state + 4 * length (tokens_in l.rest)
