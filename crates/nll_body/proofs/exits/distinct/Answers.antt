use Rattle.std.proofs.Common.{arith}
use Rattle.nll_body.proofs.ExitLemmas.{one_once}
use Rattle.nll_body.proofs.exits.distinct.Goals as goal

pub returns-in-len1-clause-distinct : goal.returns-in-len1-clause-distinct
returns-in-len1-clause-distinct c = one_once c.args.numbers.now (omega arith)
