use Rattle.std.proofs.Common.{◌≡◌, ◌++◌, eqb, take}
use Rattle.std.specs.List.{filter}
use Rattle.keeper.proofs.own.push_own.Given as goal

abbrev pub invariant-loop-fact : goal.invariant-loop-fact
invariant-loop-fact g l =
    l.found.items
    ≡ l.fn.found.items
    ++ filter (λ f. eqb (g.E.Rules.rules.owner l.engine f) l.me) (take l.fact-index l.facts)
