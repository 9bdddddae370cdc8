use Rattle.nll_run_tests.proofs.many_owners.all_leave.Goals as goal

pub clear_loads-requires-clause-shares : goal.clear_loads-requires-clause-shares
clear_loads-requires-clause-shares g c κs within = λ place share at.
    let is = c.in_ok-book.ensures.shares place share at in (is.0, is.1, is.3)
