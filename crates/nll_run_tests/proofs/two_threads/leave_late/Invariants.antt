use Rattle.std.proofs.Common.{◌≡◌, IfSome}
use Rattle.nll_run_tests.proofs.two_threads.leave_late.Given as goal

abbrev pub invariant-loop : goal.invariant-loop
invariant-loop g l =
    (goal.iterator-loop g).can_next l.iterator' × (goal.iterator-loop g).is_finite l.iterator'
    × IfSome l.coming (λ share. g.L.Ledger.belongs l.book share
    × (g.L.Ledger.number share ≡ g.L.Ledger.number l.fn.share))
