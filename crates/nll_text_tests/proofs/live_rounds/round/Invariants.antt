use Rattle.nll_text_tests.proofs.LiveRoundLemmas.{Rounding}
use Rattle.nll_text_tests.proofs.live_rounds.round.Given as goal

abbrev pub invariant-loop-point : goal.invariant-loop-point
invariant-loop-point l = Rounding l.body l.variable l.fn.flags.items l.flags.items l.changed l.point
