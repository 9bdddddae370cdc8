use Rattle.std.proofs.Common.{refl, sym, subst, ap, ◌∙◌}
use Rattle.std.proofs.lemmas.Result.{on_ok_weaker}
use Rattle.nll_owner.specs.declared.owner.Owner.TheInside.{Inside}
use Rattle.nll_owner.specs.Owner.{Owner, IsDone, Passes}
use Rattle.nll_owner.specs.Following.{Nothing}
use Rattle.nll_owner.proofs.TableLemmas.{tables_still}
use Rattle.nll_owner.proofs.FollowingLemmas.{following_same, unless_err}
use Rattle.nll_owner.proofs.OutboxLemmas.{queued_marked}
use Rattle.nll_owner.proofs.owner.Owner.receive_all.Goals as goal

pub receive_and_queue-result-requires-clause-passes : goal.receive_and_queue-result-requires-clause-passes
receive_and_queue-result-requires-clause-passes c g at =
    subst (λ (o : Owner). Passes o.problem o.cut o.me c.args.from g) (sym c.self.view_is) (c.requires.passes g at)

pub mark-requires : goal.mark-requires
mark-requires c is =
    c.receive_and_queue-result.ensures.receives.sound.based
    (ap (λ (o : Owner). o.loaded) c.receive_and_queue-result.ensures.receives.others
    ∙ (sym (ap (λ (o : Inside). o.knowledge.loaded) c.self-inside.view_is) ∙ is))

pub invariant_of-self : goal.invariant_of-self
invariant_of-self c = (
  c.mark.ensures.sound,
  tables_still c.self.inside.knowledge.problem c.mark.new.self.problem c.self.inside.knowledge.cut c.mark.new.self.cut _
      (ap (λ (o : Owner). o.problem) c.mark.ensures.marks
      ∙ (ap (λ (o : Owner). o.problem) c.receive_and_queue-result.ensures.receives.others))
      (ap (λ (o : Owner). o.cut) c.mark.ensures.marks
      ∙ (ap (λ (o : Owner). o.cut) c.receive_and_queue-result.ensures.receives.others))
      c.self.invariant.1,
  λ whole.
      let fine = sym c.is_err.ensures.value ∙ (sym (ap (λ (o : Owner). o.broken) c.mark.ensures.marks) ∙ whole) in (
        following_same Nothing _ _ _ (rw c.mark.ensures.marks refl)
            (unless_err c.receive_and_queue-result.result c.receive_and_queue-result.ensures.following fine),
        queued_marked _ _ _ (rw c.mark.ensures.marks refl)
            (unless_err c.receive_and_queue-result.result c.receive_and_queue-result.ensures.queued fine),
      ),
)

pub returns-clause-done : goal.returns-clause-done
returns-clause-done c =
    on_ok_weaker c.receive_and_queue-result.result
    (λ done. subst IsDone (sym c.mark.ensures.marks) done) c.receive_and_queue-result.ensures.done

pub returns-clause-sound : goal.returns-clause-sound
returns-clause-sound c = c.mark.ensures.sound
