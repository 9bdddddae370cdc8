use Rattle.std.proofs.Common.{refl, arith}
use Rattle.std.proofs.lemmas.List.{length-map}
use Rattle.keeper.proofs.KeepingLemmas.{told_kept, told_has, from_in}
use Rattle.keeper.proofs.ListLemmas.{on_err_always}
use Rattle.fixpoint.proofs.ListLemmas.{lists_kept, lists_pushed}
use Rattle.keeper.proofs.book.Book.receive.Goals as goal

pub index_mut-list-requires : goal.index_mut-list-requires
index_mut-list-requires g c =
    omega (
      arith,
      (from_in g.E.Rules.rules
          g.met.E.Rules.lawful
          _ _ c.self.invariant c.args.from c.args.growth (rw (← c.self.view_is) at c.requires)),
      length-map
          c.self.inside.received.items (λ list. list.items),
    )

pub invariant_of-self : goal.invariant_of-self
invariant_of-self g c =
    rw (lists_kept (λ list. list.items) c.self.inside.received.items c.args.from c.index_mut-list.result.now
    (from_in g.E.Rules.rules
    g.met.E.Rules.lawful
    _ _ c.self.invariant c.args.from c.args.growth (rw (← c.self.view_is) at c.requires))
    c.index_mut-list.ensures.value c.push.new.self c.in_err-push.ensures.items) c.self.invariant

pub returns-in_err-push-clause-err : goal.returns-in_err-push-clause-err
returns-in_err-push-clause-err g c =
    on_err_always c.from_residual.result (rw (
      ← c.self.view_is,
      (lists_kept (λ list. list.items) c.self.inside.received.items c.args.from c.index_mut-list.result.now
          (from_in g.E.Rules.rules
          g.met.E.Rules.lawful
          _ _ c.self.invariant c.args.from c.args.growth (rw (← c.self.view_is) at c.requires))
          c.index_mut-list.ensures.value c.push.new.self c.in_err-push.ensures.items),
    ) refl)

pub returns-in_err-push-clause-sound : goal.returns-in_err-push-clause-sound
returns-in_err-push-clause-sound g c =
    rw (lists_kept (λ list. list.items) c.self.inside.received.items c.args.from c.index_mut-list.result.now
    (from_in g.E.Rules.rules
    g.met.E.Rules.lawful
    _ _ c.self.invariant c.args.from c.args.growth (rw (← c.self.view_is) at c.requires))
    c.index_mut-list.ensures.value c.push.new.self c.in_err-push.ensures.items) c.self.invariant.sound

pub invariant_of-self-2 : goal.invariant_of-self-2
invariant_of-self-2 g c =
    rw (
      (lists_pushed (λ list. list.items) c.self.inside.received.items c.args.from c.index_mut-list.result.now
          (from_in g.E.Rules.rules
          g.met.E.Rules.lawful
          _ _ c.self.invariant c.args.from c.args.growth (rw (← c.self.view_is) at c.requires))
          c.index_mut-list.ensures.value c.push.new.self c.args.growth c.in_ok-push.ensures.items),
      c.max-clock.ensures,
      c.rank.ensures,
    )
    (told_kept g.E.Rules.rules
    g.met.E.Rules.lawful
    _ _ c.self.invariant c.args.from c.args.growth (rw (← c.self.view_is) at c.requires))

pub returns-clause-ok : goal.returns-clause-ok
returns-clause-ok g c =
    rw (
      ← c.self.view_is,
      (lists_pushed (λ list. list.items) c.self.inside.received.items c.args.from c.index_mut-list.result.now
          (from_in g.E.Rules.rules
          g.met.E.Rules.lawful
          _ _ c.self.invariant c.args.from c.args.growth (rw (← c.self.view_is) at c.requires))
          c.index_mut-list.ensures.value c.push.new.self c.args.growth c.in_ok-push.ensures.items),
    ) refl

pub returns-clause-sound : goal.returns-clause-sound
returns-clause-sound g c =
    rw (lists_pushed (λ list. list.items) c.self.inside.received.items c.args.from c.index_mut-list.result.now
    (from_in g.E.Rules.rules
    g.met.E.Rules.lawful
    _ _ c.self.invariant c.args.from c.args.growth (rw (← c.self.view_is) at c.requires))
    c.index_mut-list.ensures.value c.push.new.self c.args.growth c.in_ok-push.ensures.items)
    (told_kept g.E.Rules.rules
    g.met.E.Rules.lawful
    _ _ c.self.invariant c.args.from c.args.growth (rw (← c.self.view_is) at c.requires)).sound

pub returns-clause-has : goal.returns-clause-has
returns-clause-has g c =
    rw (
      ← c.self.view_is,
      (lists_pushed (λ list. list.items) c.self.inside.received.items c.args.from c.index_mut-list.result.now
          (from_in g.E.Rules.rules
          g.met.E.Rules.lawful
          _ _ c.self.invariant c.args.from c.args.growth (rw (← c.self.view_is) at c.requires))
          c.index_mut-list.ensures.value c.push.new.self c.args.growth c.in_ok-push.ensures.items),
    )
    (told_has g.E.Rules.rules
    g.met.E.Rules.lawful
    _ _ c.self.invariant c.args.from c.args.growth (rw (← c.self.view_is) at c.requires))
