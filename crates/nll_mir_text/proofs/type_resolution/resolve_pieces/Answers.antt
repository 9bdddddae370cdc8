use Rattle.std.proofs.Common.{◌<◌, length, arith, ap, sym, ◌∙◌}
use Rattle.nll_mir_text.specs.Resolution.{scope_of}
use Rattle.nll_mir_text.specs.Resolving.{ResolvingState}
use Rattle.nll_mir_text.proofs.ResolvedTypeLemmas.{unknown_from}
use Rattle.nll_mir_text.proofs.type_resolution.resolve_pieces.Goals as goal

pub returns-then-not-branch-clause-shape : goal.returns-then-not-branch-clause-shape
returns-then-not-branch-clause-shape c = λ st a.
    let s = scope_of c.args.scope.now in
    let next = c.loop-piece.invariant.made st a in
    let inside : c.loop-piece.piece-index < length c.args.pieces.now = omega arith in
    ap (λ (end : ResolvingState). end.known) (sym next.2)
    ∙ unknown_from s c.args.pieces.now c.loop-piece.piece-index _ next.0 inside
    (c.in_ok-resolve_piece.ensures.made.unknown c.if-not-branch.true next.0)
