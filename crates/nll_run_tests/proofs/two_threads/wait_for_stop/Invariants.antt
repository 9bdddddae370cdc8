use Rattle.std.proofs.Common.{◌≡◌}
use Rattle.nll_run_tests.proofs.two_threads.wait_for_stop.Given as goal

abbrev pub invariant-loop : goal.invariant-loop
invariant-loop g l =
    (goal.iterator-loop g).can_next l.iterator' × (goal.iterator-loop g).is_finite l.iterator'
    × g.L.Ledger.belongs l.book l.share × (g.L.Ledger.number l.share ≡ g.L.Ledger.number l.fn.share)
