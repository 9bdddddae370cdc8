use Rattle.std.proofs.Common.{◌≤◌, length}
use Rattle.nll_run_tests.proofs.mail_one_thread.post_some.Given as goal

abbrev pub invariant-loop-number : goal.invariant-loop-number
invariant-loop-number g l = record {
  few : length (g.M.Mail.sent l.sender) ≤ l.number;
  pair : (receiver : _) → g.M.Mail.pairs l.initial.sender receiver → g.M.Mail.pairs l.sender receiver;
}
