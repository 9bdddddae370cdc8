use Rattle.std.proofs.Common.{◌||◌, ◌++◌, ◌∷◌, [], IsTrue, append_assoc, inl, inr, ⊎_elim, ap, sym, subst, ◌∙◌, rules}
use Rattle.std.proofs.lemmas.List.Elements.{Contains-append_left, Contains-push_cases}
use Rattle.fixpoint.specs.State.{State}
use Rattle.keeper.specs.Keeping.{ListsDue, has}
use Rattle.keeper.proofs.DueLemmas.{done_now, due_at, due_entered, finds_same}
use Rattle.keeper.proofs.settle.settle.Goals as goal

pub returns-clause-done : goal.returns-clause-done
returns-clause-done g c =
    done_now g.E.Rules.rules
    g.met.E.Rules.lawful
    c.loop-fact.book c.loop-fact.due.items
    c.loop-fact.invariant.due (search rules)

-- a fact that is known already
pub loop-fact-preserved : goal.loop-fact-preserved
loop-fact-preserved g c =
    let r = g.E.Rules.rules in let o = c.loop-fact.book in let inv = c.loop-fact.invariant in
    let popped = c.pop.new.self.items in let fact = c.in-Some.fact in
    let due : ListsDue r o.system o.me (has r o) (popped ++ fact ∷ []) =
    subst (ListsDue r o.system o.me (has r o)) c.in-Some.ensures.items inv.due in
    let known : IsTrue (has r o fact) = sym (inv.store fact) ∙ (sym c.knows.ensures ∙ c.if-not-knows.false) in
    record {
      sound = inv.sound;
      grows = inv.grows;
      store = inv.store;
      due = record {
        each = λ f h. due.each f (Contains-append_left popped (fact ∷ []) f h);
        all = λ f own follows. ⊎_elim inl (λ h. ⊎_elim inr (λ same. inl (subst (λ x. IsTrue (has r o x)) same known))
            (Contains-push_cases popped fact f h)) (due.all f own follows);
      };
    }

pub loop-fact-preserved-in-Continue-branch-2 : goal.loop-fact-preserved-in-Continue-branch-2
loop-fact-preserved-in-Continue-branch-2 g c =
    let r = g.E.Rules.rules in let law = g.met.E.Rules.lawful in
    let o = c.loop-fact.book in let new = c.grow.new.self in let inv = c.loop-fact.invariant in
    let grown = c.in_ok-grow.ensures.ok in let more = c.in_ok-grow.ensures.has in
    let store = c.in_ok-enter.ensures.store in let fact = c.in-Some.fact in
    let due : ListsDue r o.system o.me (has r o) (c.pop.new.self.items ++ fact ∷ []) =
    subst (ListsDue r o.system o.me (has r o)) c.in-Some.ensures.items inv.due in
    record {
      sound = c.grow.ensures.sound;
      grows = record {
        begins = (
          inv.grows.begins.0 ++ grown.0 ∷ [],
          ap (λ x. x.log) grown.2 ∙ (ap (λ l. l ++ grown.0 ∷ []) inv.grows.begins.1
              ∙ append_assoc c.args.book.now.log inv.grows.begins.0 (grown.0 ∷ [])),
        );
        others = grown.2 ∙ (ap (λ (x : State _ _). record x { log = o.log ++ grown.0 ∷ [] }) inv.grows.others
            ∙ ap (λ l. record c.args.book.now { log = l }) (sym (ap (λ x. x.log) grown.2)));
      };
      store = λ f. store f ∙ (ap (λ b. r.same fact f || b) (inv.store f) ∙ sym (more f));
      due = due_at r new.system o.system new.me o.me _ _ (ap (λ x. x.system) grown.2) (ap (λ x. x.me) grown.2)
          (due_entered r law o.system inv.sound.valid o.me (has r o) (has r new) c.pop.new.self.items
          c.enter.new.found.items fact due more
          (finds_same r law o.system inv.sound.valid o.me c.system-engine.result.now c.me.result
          (c.system-engine.ensures ∙ ap (λ x. x.system) grown.2) (c.me.ensures.value ∙ ap (λ x. x.me) grown.2)
          (λ f. g.E.Engine.has c.loop-fact.store f) (λ f. g.E.Engine.has c.enter.new.store f) (has r o) (has r new)
          (λ f. sym (inv.store f))
          (λ f. more f ∙ (ap (λ b. r.same fact f || b) (sym (inv.store f)) ∙ sym (store f)))
          c.pop.new.self.items c.enter.new.found.items c.in_ok-enter.ensures.found));
    }
