use Rattle.std.proofs.Common.{refl}
use Rattle.keeper.proofs.KeepingLemmas.{grown_kept, grown_has}
use Rattle.keeper.proofs.book.Book.grow.Goals as goal

pub invariant_of-self-2 : goal.invariant_of-self-2
invariant_of-self-2 g c =
    rw c.in_ok-push.ensures.items
    (grown_kept g.E.Rules.rules
    g.met.E.Rules.lawful
    _ _ c.self.invariant c.args.fact c.growth.result c.growth.ensures.fact c.growth.ensures.rank
    (rw (← c.self.view_is) at c.requires.found)
    (rw (← c.self.view_is) at c.requires.lacks))

pub returns-clause-ok : goal.returns-clause-ok
returns-clause-ok g c = (
  c.growth.result,
  c.growth.ensures.fact,
  rw (← c.self.view_is, c.in_ok-push.ensures.items) refl,
)

pub returns-clause-sound : goal.returns-clause-sound
returns-clause-sound g c =
    rw c.in_ok-push.ensures.items
    (grown_kept g.E.Rules.rules
    g.met.E.Rules.lawful
    _ _ c.self.invariant c.args.fact c.growth.result c.growth.ensures.fact c.growth.ensures.rank
    (rw (← c.self.view_is) at c.requires.found)
    (rw (← c.self.view_is) at c.requires.lacks)).sound

pub returns-clause-has : goal.returns-clause-has
returns-clause-has g c =
    rw (← c.self.view_is, c.in_ok-push.ensures.items)
    (grown_has g.E.Rules.rules
    g.met.E.Rules.lawful
    _ _ c.self.invariant c.args.fact c.growth.result c.growth.ensures.fact c.growth.ensures.rank
    (rw (← c.self.view_is) at c.requires.found)
    (rw (← c.self.view_is) at c.requires.lacks))
