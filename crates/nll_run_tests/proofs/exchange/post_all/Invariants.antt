use Rattle.std.proofs.Common.{◌≤◌, length}
use Rattle.nll_run_tests.proofs.exchange.post_all.Given as goal

abbrev pub invariant-loop : goal.invariant-loop
invariant-loop g l =
    (goal.iterator-loop g).can_next l.iterator' × (goal.iterator-loop g).is_finite l.iterator'
    × (length (g.M.Mail.sent l.sender) ≤ l.number)
    × ((receiver : _) → g.M.Mail.pairs l.initial.sender receiver → g.M.Mail.pairs l.sender receiver)
