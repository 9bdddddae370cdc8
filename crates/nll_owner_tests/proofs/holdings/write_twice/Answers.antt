use Rattle.nll_owner_tests.proofs.holdings.write_twice.Goals as goal

pub write_all_taken-requires-2-clause-sets : goal.write_all_taken-requires-2-clause-sets
write_all_taken-requires-2-clause-sets c = λ r low own.
    let s = c.requires.sets r low own in
    c.write_all_taken.ensures r s.0 s.1
