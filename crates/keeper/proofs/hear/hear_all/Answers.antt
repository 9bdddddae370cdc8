use Rattle.std.proofs.Common.{◌≡◌, ◌||◌, ◌∷◌, [], take, ap, sym, ◌∙◌, subst}
use Rattle.fixpoint.specs.State.{Passes, with_growths}
use Rattle.keeper.specs.Keeping.{ListsDue, has, with_heard}
use Rattle.fixpoint.proofs.ReceivingLemmas.{got_all, got_next, got_none, with_more, take_next, received_on}
use Rattle.keeper.proofs.DueLemmas.{due_at, due_same, due_received, already, finds_same}
use Rattle.keeper.proofs.hear.hear_all.Goals as goal
use Rattle.keeper.proofs.hear.hear_all.Goals.{then-not-known+in_ok-enter, else-not-known}

pub receive-requires : goal.receive-requires
receive-requires g c =
    subst (λ o. Passes g.E.Rules.rules o.system o.me c.args.from c.growth-item.result)
    (sym c.loop-growth.invariant.others)
    (c.requires.passes c.growth-item.result
    (c.loop-growth.growth-index, c.loop-growth-test.true, sym c.growth-item.is))

pub enter-requires-clause-proper : goal.enter-requires-clause-proper
enter-requires-clause-proper g c =
    let r = g.E.Rules.rules in
    let p = c.requires.passes c.growth-item.result
    (c.loop-growth.growth-index, c.loop-growth-test.true, sym c.growth-item.is) in
    let system = c.system-engine.ensures ∙ (ap (λ y. y.system) c.in_ok-receive.ensures.ok
    ∙ ap (λ y. y.system) c.loop-growth.invariant.others) in
    subst (λ (y : _ × _). r.proper y.0 y.1) (λ i. (sym system i, sym c.fact-fact.ensures i)) p.proper

pub returns-in_err-receive-clause-perhaps : goal.returns-in_err-receive-clause-perhaps
returns-in_err-receive-clause-perhaps g c =
    let x = c.growth-item.result in let middle = c.loop-growth.book.received in
    got_next c.args.book.now.received middle c.receive.new.self.received c.args.from
    c.loop-growth.growth-index c.args.growths.now x c.loop-growth-test.true c.growth-item.is
    c.loop-growth.invariant.received
    (got_none middle c.args.from (x ∷ []) c.receive.new.self.received
    (ap (λ o. o.received) c.in_err-receive.ensures.err))

pub returns-in_err-enter-clause-perhaps : goal.returns-in_err-enter-clause-perhaps
returns-in_err-enter-clause-perhaps g c =
    let x = c.growth-item.result in let middle = c.loop-growth.book.received in
    got_next c.args.book.now.received middle c.receive.new.self.received c.args.from
    c.loop-growth.growth-index c.args.growths.now x c.loop-growth-test.true c.growth-item.is
    c.loop-growth.invariant.received
    (got_all middle c.args.from (x ∷ []) c.receive.new.self.received
    (ap (λ o. o.received) c.in_ok-receive.ensures.ok))

pub loop-growth-preserved : goal.loop-growth-preserved
loop-growth-preserved g c =
    let r = g.E.Rules.rules in let law = g.met.E.Rules.lawful in
    let old = c.args.book.now in let gs = c.args.growths.now in let i = c.loop-growth.growth-index in
    let o = c.loop-growth.book in let new = c.receive.new.self in
    let x = c.growth-item.result in let inv = c.loop-growth.invariant in
    let ok = c.in_ok-receive.ensures.ok in let more = c.in_ok-receive.ensures.has in
    let both : ((f : _) → g.E.Engine.has c.if-not-known.store f ≡ has r new f)
    × ListsDue r new.system new.me (has r new) c.if-not-known.due.items = elim c.if-not-known.branch [
      | then-not-known+in_ok-enter w ↦ let store = w.in_ok-enter.ensures.store in rw (w.store-is, w.due-is) (
        (λ f. store f ∙ (ap (λ b. r.same c.fact-fact.result f || b) (inv.store f)
            ∙ (ap (λ y. r.same y f || has r o f) c.fact-fact.ensures ∙ sym (more f)))),
        due_at r new.system o.system new.me o.me _ _ (ap (λ y. y.system) ok) (ap (λ y. y.me) ok)
            (due_received r law o.system inv.sound.valid o.me (has r o) (has r new) c.loop-growth.due.items
            w.enter.new.found.items (r.fact x) inv.due more
            (finds_same r law o.system inv.sound.valid o.me w.system-engine.result.now w.me.result
            (w.system-engine.ensures ∙ ap (λ y. y.system) ok) (w.me.ensures.value ∙ ap (λ y. y.me) ok)
            (λ f. g.E.Engine.has c.loop-growth.store f) (λ f. g.E.Engine.has w.enter.new.store f)
            (has r o) (has r new) (λ f. sym (inv.store f))
            (λ f. more f ∙ (ap (λ y. r.same y f || has r o f) (sym c.fact-fact.ensures)
            ∙ (ap (λ b. r.same c.fact-fact.result f || b) (sym (inv.store f)) ∙ sym (store f))))
            c.loop-growth.due.items w.enter.new.found.items w.in_ok-enter.ensures.found)),
      )
      | else-not-known w ↦
          let same = λ (f : _). more f ∙ already r law (has r o) (r.fact x) (sym (inv.store (r.fact x))
          ∙ (ap (λ y. g.E.Engine.has c.loop-growth.store y) (sym c.fact-fact.ensures)
          ∙ (sym c.knows-known.ensures ∙ w.if-not-known.false))) f in
          rw (w.store-is, w.due-is) (
            (λ f. inv.store f ∙ sym (same f)),
            due_at r new.system o.system new.me o.me _ _ (ap (λ y. y.system) ok) (ap (λ y. y.me) ok)
                (due_same r law o.system inv.sound.valid o.me (has r o) (has r new) c.loop-growth.due.items same
                inv.due),
          )
    ] in
    record {
      others = received_on old o new inv.others
          (ok ∙ ap (λ lists. record o { received = lists }) (sym (ap (λ y. y.received) ok)));
      received = ap (λ y. y.received) ok
          ∙ (ap (λ lists. with_heard lists c.args.from x) inv.received
          ∙ (with_more old.received c.args.from (take i gs) x
          ∙ ap (with_growths old.received c.args.from)
          (sym (take_next gs i x c.loop-growth-test.true c.growth-item.is))));
      sound = c.receive.ensures.sound;
      store = both.0;
      due = both.1;
    }
