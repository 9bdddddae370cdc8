use Rattle.std.proofs.Common.{◌≡◌, false, take}
use Rattle.std.specs.List.{list_any}
use Rattle.nll_mir_grammar.specs.Functions as functions
use Rattle.nll_mir_grammar.proofs.type_text.TypeText.has_function.Given as goal

abbrev pub invariant-loop-piece : goal.invariant-loop-piece
invariant-loop-piece l = list_any functions.is_function (take l.piece-index l.piece-items) ≡ false
