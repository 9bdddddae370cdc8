use Rattle.std.proofs.Common.{◌≡◌, ◌≤◌, ◌^◌, List, ◌++◌, [], ◌∷◌, length, length-append, append-nil, append_assoc, Contains, refl, sym, ap, ◌∙◌, subst, ⊎_elim, arith, rules}
use Rattle.std.proofs.lemmas.Bool.{true≢false}
use Rattle.std.proofs.lemmas.List.Elements.{Contains-append_right, Contains-push_cases}
use Rattle.fixpoint.specs.State.{Passes}
use Rattle.worker.proofs.inbox.take_batch.Goals as goal

pub loop-receiver-init : goal.loop-receiver-init
loop-receiver-init g c =
    let before = g.M.Mail.received c.args.receiver.now in
    record {
      room = c.requires.room;
      many = omega (arith, ap length c.requires.empty);
      taken = sym (ap (λ xs. before ++ xs) c.requires.empty ∙ append-nil before);
      passes = λ h at.
          absurd {A = Passes g.A.Rules.rules (g.A.Analysis.state c.args.part.now).system
          (g.A.Analysis.state c.args.part.now).me c.args.from h}
          (omega (arith, (subst (λ (xs : List _). Contains xs h) c.requires.empty at).1));
      few = λ small. small;
      pair = λ s p. p;
      closed = λ s p. p;
      ends = refl;
    }

pub returns-in-None-clause-taken : goal.returns-in-None-clause-taken
returns-in-None-clause-taken g c = c.in-None.ensures.none ∙ c.loop-receiver.invariant.taken

pub returns-in-None-clause-few : goal.returns-in-None-clause-few
returns-in-None-clause-few g c = λ small.
    subst (λ (xs : List _). length xs ≤ 2 ^ 37) (sym c.in-None.ensures.none)
    (c.loop-receiver.invariant.few small)

pub returns-in-None-clause-pair : goal.returns-in-None-clause-pair
returns-in-None-clause-pair g c = λ s p. c.take.ensures.pair s (c.loop-receiver.invariant.pair s p)

pub returns-in-None-clause-closed : goal.returns-in-None-clause-closed
returns-in-None-clause-closed g c = λ s p. c.take.ensures.closed s (c.loop-receiver.invariant.closed s p)

-- what was taken in all, with a growth that was taken last
taken_more : {G : Type 0} (before was now batch next : List G) (g : G) → was ≡ before ++ batch → now ≡ was ++ g ∷ []
    → next ≡ batch ++ g ∷ [] → now ≡ before ++ next
taken_more before was now batch next g first then both =
    then ∙ (ap (λ xs. xs ++ g ∷ []) first ∙ (append_assoc before batch (g ∷ []) ∙ ap (λ xs. before ++ xs) (sym both)))

pub returns-then-not-passes-clause-taken : goal.returns-then-not-passes-clause-taken
returns-then-not-passes-clause-taken g c =
    taken_more (g.M.Mail.received c.args.receiver.now) _ _ c.loop-receiver.batch.items _ c.in-Some.growth
    c.loop-receiver.invariant.taken c.in-Some.ensures.some c.push_reserved.ensures.items

pub returns-then-not-passes-clause-pair : goal.returns-then-not-passes-clause-pair
returns-then-not-passes-clause-pair g c = λ s p. c.take.ensures.pair s (c.loop-receiver.invariant.pair s p)

pub returns-then-not-passes-clause-closed : goal.returns-then-not-passes-clause-closed
returns-then-not-passes-clause-closed g c = λ s p. c.take.ensures.closed s (c.loop-receiver.invariant.closed s p)

pub loop-receiver-preserved : goal.loop-receiver-preserved
loop-receiver-preserved g c =
    let o = (g.A.Analysis.state c.args.part.now) in
    let was = c.loop-receiver.invariant in
    let passes : Passes g.A.Rules.rules o.system o.me c.args.from c.in-Some.growth = search rules in
    record {
      room = omega (arith, was.room, c.push_reserved.ensures.capacity);
      many = search rules;
      taken = taken_more (g.M.Mail.received c.args.receiver.now) _ _ c.loop-receiver.batch.items _ c.in-Some.growth
          c.loop-receiver.invariant.taken c.in-Some.ensures.some c.push_reserved.ensures.items;
      passes = λ h at. ⊎_elim
          (λ before. was.passes h before)
          (λ is. subst (λ (x : _). Passes g.A.Rules.rules o.system o.me c.args.from x) is passes)
          (Contains-push_cases c.loop-receiver.batch.items c.in-Some.growth h
          (subst (λ (xs : List _). Contains xs h) c.push_reserved.ensures.items at));
      few = λ small.
          let was = g.M.Mail.received c.loop-receiver.receiver in
          let one = length-append was (c.in-Some.growth ∷ []) in
          omega (arith, c.in-Some.ensures.few, ap length c.in-Some.ensures.some, one);
      pair = λ s p. c.take.ensures.pair s (was.pair s p);
      closed = λ s p. c.take.ensures.closed s (was.closed s p);
      ends = c.take.ensures.ends ∙ was.ends;
    }

pub returns-then-not-passes-clause-stray : goal.returns-then-not-passes-clause-stray
returns-then-not-passes-clause-stray g c = λ _. (
  c.in-Some.growth,
  subst (λ (xs : List _). Contains xs c.in-Some.growth) (sym c.push_reserved.ensures.items)
      (Contains-append_right c.loop-receiver.batch.items (c.in-Some.growth ∷ []) c.in-Some.growth (
        0,
        omega arith,
        refl,
      )),
  λ passes. true≢false (sym (c.passes.ensures.1 passes) ∙ c.if-not-passes.true),
)
