use Rattle.std.proofs.Common.{arith}
use Rattle.nll_tests.proofs.rounds.asked_inside.Goals as goal

pub returns-in-All : goal.returns-in-All
returns-in-All c = rw c.in-All.is c.all_of.ensures

pub reached_from-requires-clause-point : goal.reached_from-requires-clause-point
reached_from-requires-clause-point c = omega (arith, rw c.in-Point.is at c.requires.among)

pub returns-in-Point : goal.returns-in-Point
returns-in-Point c = rw c.in-Point.is c.reached_from.ensures
