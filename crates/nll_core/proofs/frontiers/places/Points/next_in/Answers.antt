use Rattle.std.proofs.Common.{arith}
use Rattle.nll_core.proofs.frontiers.places.Points.next_in.Goals as goal

pub returns-in_default-clause-none : goal.returns-in_default-clause-none
returns-in_default-clause-none c = λ x h low. absurd (omega (arith, c.in_default.ensures.none x h, low))

pub returns-then-start-last-clause-none : goal.returns-then-start-last-clause-none
returns-then-start-last-clause-none c = λ x h low. omega (arith, c.in-Some.ensures.least x h low, c.if-start-last.true)
