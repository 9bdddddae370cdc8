use Rattle.std.proofs.Common.{Contains, rules}
use Rattle.nll_problem.proofs.BaseLemmas.{repeated_fact}
use Rattle.nll_problem.proofs.fact_lists.push_pair.Goals as goal

pub returns-then-contains-clause-ok : goal.returns-then-contains-clause-ok
returns-then-contains-clause-ok c =
    let there : Contains c.args.pairs.now.items c.args.pair = search rules in
    rw c.reserve-room.ensures.items (repeated_fact c.args.pairs.now.items c.args.pair there)
