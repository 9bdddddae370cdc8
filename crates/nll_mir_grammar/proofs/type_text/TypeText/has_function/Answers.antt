use Rattle.std.proofs.Common.{sym, ap, ◌∙◌}
use Rattle.std.specs.List.{list_any}
use Rattle.nll_mir_grammar.specs.Functions as functions
use Rattle.std.proofs.lemmas.List.{take_all}
use Rattle.std.proofs.lemmas.List.Folds.{list_any_at}
use Rattle.nll_mir_grammar.proofs.PieceLemmas.{any_function}
use Rattle.nll_mir_grammar.proofs.type_text.TypeText.has_function.Goals as goal

pub returns-in-Function : goal.returns-in-Function
returns-in-Function c =
    sym (list_any_at functions.is_function _ c.loop-piece.piece-index _ c.loop-piece-test.true
    (ap functions.is_function c.in-Function.is))
    ∙ ap (list_any functions.is_function) c.pieces-piece-items.ensures.value
    ∙ any_function c.args.self.now c.pieces-piece-items.ensures.sound

pub returns : goal.returns
returns c =
    sym c.loop-piece.invariant
    ∙ ap (list_any functions.is_function) (take_all c.loop-piece.piece-index _ c.loop-piece-test.false
    ∙ c.pieces-piece-items.ensures.value)
    ∙ any_function c.args.self.now c.pieces-piece-items.ensures.sound
