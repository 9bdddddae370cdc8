use Rattle.std.proofs.Common.{sym, ◌∙◌, arith, refl}
use Rattle.std.proofs.lemmas.List.{get_or_default}
use Rattle.keeper.proofs.KeepingLemmas.{given_kept}
use Rattle.fixpoint.proofs.ListLemmas.{filter_le}
use Rattle.keeper.proofs.book.Book.give.Goals as goal

pub overflow_add-index_mut : goal.overflow_add-index_mut
overflow_add-index_mut g c =
    let to_in = rw (← c.self.view_is) at c.requires.to in
    let more = rw (← c.self.view_is) at c.requires.more in
    let r = g.E.Rules.rules in
    let low = filter_le (λ (x : _). r.reads c.self.inside.system.now c.args.to (r.fact x)) c.self.inside.log.items in
    let is = (get_or_default c.self.inside.given.items c.args.to 0 c.index_mut.result.now
    (omega (arith, to_in, c.self.invariant.sound.receivers)) ∙ sym c.index_mut.ensures.value) in
    omega (arith, is, more, low, c.self.invariant.sound.few)

pub invariant_of-self : goal.invariant_of-self
invariant_of-self g c =
    let to_in = rw (← c.self.view_is) at c.requires.to in
    given_kept g.E.Rules.rules
    g.met.E.Rules.lawful
    _ _ c.self.invariant c.args.to c.index_mut.result.now to_in
    (get_or_default c.self.inside.given.items c.args.to 0 c.index_mut.result.now
    (omega (arith, to_in, c.self.invariant.sound.receivers)) ∙ sym c.index_mut.ensures.value)
    (rw (← c.self.view_is) at c.requires.more)

pub returns-clause-given : goal.returns-clause-given
returns-clause-given g c =
    let to_in = rw (← c.self.view_is) at c.requires.to in
    rw (
      ← c.self.view_is,
      (get_or_default c.self.inside.given.items c.args.to 0 c.index_mut.result.now
          (omega (arith, to_in, c.self.invariant.sound.receivers)) ∙ sym c.index_mut.ensures.value),
    ) refl

pub returns-clause-sound : goal.returns-clause-sound
returns-clause-sound g c =
    let to_in = rw (← c.self.view_is) at c.requires.to in
    (given_kept g.E.Rules.rules
    g.met.E.Rules.lawful
    _ _ c.self.invariant c.args.to c.index_mut.result.now to_in
    (get_or_default c.self.inside.given.items c.args.to 0 c.index_mut.result.now
    (omega (arith, to_in, c.self.invariant.sound.receivers)) ∙ sym c.index_mut.ensures.value)
    (rw (← c.self.view_is) at c.requires.more)).sound
