use Rattle.nll_text_tests.specs.LiveRounds.{Flags, unflagged}
use Rattle.nll_text_tests.proofs.live_rounds.live_by_rounds.Given as goal

abbrev pub invariant-loop : goal.invariant-loop
invariant-loop l = Flags l.body l.variable l.ends l.flags.items

abbrev pub decreases-loop : goal.decreases-loop
decreases-loop l = unflagged l.flags.items
