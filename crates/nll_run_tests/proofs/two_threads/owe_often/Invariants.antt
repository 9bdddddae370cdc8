use Rattle.std.proofs.Common.{◌≡◌, ◌+◌}
use Rattle.nll_run_tests.proofs.two_threads.owe_often.Given as goal

abbrev pub invariant-loop : goal.invariant-loop
invariant-loop g l = record {
  book : g.L.Ledger.belongs l.book l.share;
  number : g.L.Ledger.number l.share ≡ g.L.Ledger.number l.fn.share;
  owed : g.L.Ledger.owed l.share ≡ l.counter + 1;
  cleared : g.L.Ledger.cleared l.share ≡ l.counter;
}
