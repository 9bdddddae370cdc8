use Rattle.std.proofs.Common.{ℕ, arith, length-drop}
use Rattle.nll_report.proofs.WritingLemmas.{Appends-take}
use Rattle.nll_report.proofs.report_output.put.Goals as goal

pub loop-written-preserved : goal.loop-written-preserved
loop-written-preserved g c = (
  omega (arith, c.in-Some.ensures.some, length-drop {A = ℕ}),
  Appends-take _ _ _ _ _ _ c.loop-written.invariant.1 c.in-Some.ensures.taken,
)
