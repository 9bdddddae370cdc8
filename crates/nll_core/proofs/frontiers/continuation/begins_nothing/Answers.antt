use Rattle.std.proofs.Common.{arith}
use Rattle.nll_core.proofs.frontiers.continuation.begins_nothing.Goals as goal

pub returns-then-not-is_empty-clause-all : goal.returns-then-not-is_empty-clause-all
returns-then-not-is_empty-clause-all c =
    λ none _. (let some = c.is_empty.ensures.no c.if-not-is_empty.true in absurd (none some.0 some.1))

pub returns-in-Some-clause-all : goal.returns-in-Some-clause-all
returns-in-Some-clause-all c =
    λ _ apart. absurd (apart c.in-Some.field-0 c.in-Some.ensures.some.0
    (c.in-Some.ensures.some.1, c.in-Some.ensures.some.2))

pub returns-in-None-clause-apart : goal.returns-in-None-clause-apart
returns-in-None-clause-apart c =
    λ _ p there own. (let past = c.in-None.ensures.none p there own.0 in omega (arith, past, own.1))
