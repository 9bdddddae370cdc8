use Rattle.std.proofs.Common.{◌≡◌, ◌++◌, ℕ, List, [], ◌∷◌, length, Contains, append-nil, refl, sym, ap, ◌∙◌, subst, arith, rules}
use Rattle.fixpoint.specs.State.{State}
use Rattle.fixpoint.proofs.ReceivingLemmas.{with_none}
use Rattle.worker.specs.declared.inbox.Heard.{Heard}
use Rattle.worker.specs.declared.inbox.Heard.TheVariants.{Nothing, Growths, Stray, Memory}
use Rattle.worker.specs.Hearing.{HandsIn, LooksInto}
use Rattle.worker.proofs.inbox.hear.Goals as goal
use Rattle.fixpoint.specs.Rules.{Rules}

pub returns-in-Err-clause-hears : goal.returns-in-Err-clause-hears
returns-in-Err-clause-hears g c =
    let before = g.M.Mail.received c.args.receiver.now in
    let o = (g.A.Analysis.state c.args.part.now) in
    let none = c.reserve.ensures.items ∙ c.clear.ensures.items in (
      sym (ap (λ xs. before ++ xs) none ∙ append-nil before),
      (
        ([], sym (append-nil o.log)),
        c.requires.sound,
        refl,
        ([], (c.reserve.new.self.items, refl), sym (with_none o.received c.args.from)),
      ),
    )

pub returns-then-not-take_batch-clause-hears : goal.returns-then-not-take_batch-clause-hears
returns-then-not-take_batch-clause-hears g c =
    (c.take_batch.ensures.taken, (c.take_batch.ensures.stray c.if-not-take_batch.true, refl))

no_items : {G : Type 0} (xs : List G) → length xs ≡ 0 → xs ≡ []
no_items [] e = refl
no_items (x ∷ xs) e = absurd (omega (arith, e))

pub returns-then-is_empty-clause-hears : goal.returns-then-is_empty-clause-hears
returns-then-is_empty-clause-hears g c =
    let before = g.M.Mail.received c.args.receiver.now in
    let zero : length c.take_batch.new.batch.items ≡ 0 = search rules in
    let none = no_items c.take_batch.new.batch.items zero in
    (refl, c.take_batch.ensures.taken ∙ (ap (λ xs. before ++ xs) none ∙ append-nil before))

-- what was handed in is what was taken
looks_in : {A F G : Type 0} (rules : Rules A F G) (j : ℕ) (old new : State A G) (before after gs : List G)
    (heard : Heard) → after ≡ before ++ gs
    → HandsIn rules j old new gs heard → LooksInto rules j old new before after gs heard
looks_in rules j old new before after gs Nothing e h = absurd h
looks_in rules j old new before after gs Growths e h = (e, h)
looks_in rules j old new before after gs Stray e h = (e, h)
looks_in rules j old new before after gs Memory e h = (e, h)
