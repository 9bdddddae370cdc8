use Rattle.std.proofs.Common.{refl}
use Rattle.nll_types.specs.Types.{tuple}
use Rattle.nll_mir_text.specs.Resolution.{scope_of}
use Rattle.nll_mir_text.specs.Resolving.{types_inside}
use Rattle.nll_mir_text.proofs.ShapedLemmas.{piece_done}
use Rattle.nll_mir_text.proofs.type_resolution.resolve_piece.Goals as goal

pub returns-in-Tuple-clause-made : goal.returns-in-Tuple-clause-made
returns-in-Tuple-clause-made c =
    rw c.in-Tuple.is (piece_done (scope_of c.args.scope.now) _ _ _ _ _ c.in_ok-put_row-in-Tuple.ensures.below
    (λ st a. c.in_ok-put_row-in-Tuple.ensures.made st (tuple (types_inside st)) a refl))

pub returns-in-Function-clause-made : goal.returns-in-Function-clause-made
returns-in-Function-clause-made c =
    rw c.in-Function.is (c.in_ok-put_function-in-Function.ensures.made (scope_of c.args.scope.now))
