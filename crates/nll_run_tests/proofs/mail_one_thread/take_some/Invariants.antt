use Rattle.nll_run_tests.proofs.mail_one_thread.take_some.Given as goal

abbrev pub invariant-loop-number : goal.invariant-loop-number
invariant-loop-number g l = (sender : _) → g.M.Mail.pairs sender l.initial.receiver → g.M.Mail.pairs sender l.receiver
