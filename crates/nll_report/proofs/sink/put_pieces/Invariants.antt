-- The pieces before this one were put, and took no more room than their length.
use Rattle.std.proofs.Common.{length, take}
use Rattle.std.specs.Io.KnownBytes.{Appends}
use Rattle.std.specs.List.{flat_map}
use Rattle.nll_report.specs.Sink.{LeavesRoom}
use Rattle.nll_report.proofs.sink.put_pieces.Given as goal

abbrev pub invariant-loop-piece : goal.invariant-loop-piece
invariant-loop-piece g l =
    let done = flat_map (λ piece. piece.now) (take l.piece-index l.pieces) in
    Appends (g.S.Sink.contents l.initial.to) (g.S.Sink.contents l.to) done
    × LeavesRoom (g.S.Sink.room l.initial.to) (g.S.Sink.room l.to) (length done)
