use Rattle.std.proofs.Common.{map}
use Rattle.keeper.specs.Keeping.{AreDealt}
use Rattle.keeper.proofs.outboxes.deal.Given as goal

-- the lists before this one got the growth
abbrev pub invariant-loop-reader : goal.invariant-loop-reader
invariant-loop-reader g l =
    AreDealt g.E.Rules.rules l.engine l.growth l.reader (map (λ list. list.items) l.fn.lists.items)
    (map (λ list. list.items) l.lists.items)
