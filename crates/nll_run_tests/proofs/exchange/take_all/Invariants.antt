use Rattle.std.proofs.Common.{◌≡◌}
use Rattle.nll_run_tests.proofs.exchange.take_all.Given as goal

abbrev pub invariant-loop : goal.invariant-loop
invariant-loop g l =
    (goal.iterator-loop g).can_next l.iterator' × (goal.iterator-loop g).is_finite l.iterator'
    × (g.M.Mail.ends l.receiver ≡ g.M.Mail.ends l.initial.receiver)
    × ((closed : _) → g.M.Mail.closes closed l.initial.receiver → g.M.Mail.closes closed l.receiver)
