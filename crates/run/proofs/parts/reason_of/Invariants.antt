use Rattle.std.proofs.Common.{map}
use Rattle.run.proofs.ReasonLemmas.{IsReasonSoFar}
use Rattle.run.proofs.parts.reason_of.Given as goal

abbrev pub invariant-loop-done : goal.invariant-loop-done
invariant-loop-done g l = IsReasonSoFar (map (λ d. d.ending) l.finished) l.done-index l.reason
