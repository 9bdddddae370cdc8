use Rattle.nll_live.proofs.SetLemmas.{Covers}
use Rattle.nll_live.proofs.live_points.set_of.Given as goal

abbrev pub invariant-loop-low : goal.invariant-loop-low
invariant-loop-low l = Covers l.heights l.lows l.low-index l.points l.set
