use Rattle.nll_report.proofs.SinkLemmas.{cut_at}
use Rattle.nll_report.proofs.sink.put_pieces.Goals as goal

pub returns-in_err-put-clause-cut : goal.returns-in_err-put-clause-cut
returns-in_err-put-clause-cut g c =
    let told = c.in_err-put.ensures in
    cut_at _ (λ piece. piece.now) c.args.pieces.now c.loop-piece.piece-index _ c.as_bytes.result.now _ _ _ _ _ _
    c.loop-piece-test.true c.as_bytes.ensures.value c.loop-piece.invariant told.within told.first told.refused
