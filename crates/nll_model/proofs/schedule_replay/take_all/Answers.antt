use Rattle.std.proofs.Common.{◌≡◌, ◌++◌, [], ◌∷◌, Bool, false, List, take, get_or, sym, ap, ◌∙◌, subst, arith}
use Rattle.std.specs.Prelude.{Option}
use Rattle.std.proofs.lemmas.List.{get_or_default}
use Rattle.fixpoint.specs.declared.error.PartError.{PartError}
use Rattle.nll_model.specs.State.{World}
use Rattle.nll_model.specs.declared.error.ModelError.{ModelError}
use Rattle.nll_model.specs.declared.error.ModelError.TheVariants.{NotNow, Owner}
use Rattle.nll_model.specs.declared.event.Event.{Event}
use Rattle.nll_model.specs.declared.event.Event.TheVariants.{Load}
use Rattle.nll_model.specs.declared.outcome.Step.{Step}
use Rattle.nll_model.specs.Events.{IsAnswerOf, AreSteps}
use Rattle.nll_model.proofs.ReplayLemmas.{steps_push, take_next}
use Rattle.nll_model.proofs.schedule_replay.take_all.Goals as goal
use Rattle.nll_model.proofs.schedule_replay.take_all.Goals.{in-Ok, in-Err-NotNow}

not_refused : (e : PartError) → ◌≡◌ {A = ModelError} NotNow (Owner e) → ⊥
not_refused e same = grind arith

-- a world that isn't broken differs by its state alone
differs : (first old new : World) → first.broken ≡ false → old ≡ record first { state = old.state }
    → new ≡ record old { state = new.state; broken = new.broken } → new.broken ≡ false
    → new ≡ record first { state = new.state }
differs first old new whole same others fine = others
    ∙ (ap (λ (w : World). record w { state = new.state; broken = new.broken }) same
    ∙ ap (λ (b : Bool). record first { state = new.state; broken = b }) (fine ∙ sym whole))

pub loop-event-preserved : goal.loop-event-preserved
loop-event-preserved c =
    let inv = c.loop-event.invariant in
    let old = c.loop-event.world in let new = c.step.new.self in
    let start = c.args.world.now.state in
    let events = c.args.events.now in let k = c.loop-event.event-index in
    let es = take k events in
    let e : Event = get_or events k (Load 0) in
    let whole : old.broken ≡ false = ap (λ (w : World). w.broken) inv.others ∙ c.requires in
    let answer : IsAnswerOf old.state e c.match-step.answer new.state = elim c.match-step.branch [
      | in-Ok w ↦ subst (λ (a : Option Step). IsAnswerOf old.state e a new.state) (sym w.answer-is)
          w.in-Ok.ensures.done.1
      | in-Err-NotNow w ↦ subst (λ (a : Option Step). IsAnswerOf old.state e a new.state) (sym w.answer-is) (
        (c.step.ensures.not_now.0 (rw w.in-Err-NotNow.field-0-is at w.in-Err-NotNow.is)).1,
        ap (λ (x : World). x.state)
            ((rw w.in-Err-NotNow.field-0-is at w.in-Err-NotNow.ensures.unchanged) (not_refused _)),
      )
    ] in
    let fine : new.broken ≡ false = elim c.match-step.branch [
      | in-Ok w ↦ w.in-Ok.ensures.done.2
      | in-Err-NotNow w ↦ ap (λ (x : World). x.broken)
          ((rw w.in-Err-NotNow.field-0-is at w.in-Err-NotNow.ensures.unchanged) (not_refused _)) ∙ whole
    ] in
    let next =
    take_next events k e c.loop-event-test.true (get_or_default events k e (Load 0) c.loop-event-test.true) in
    record {
      steps = subst (λ (xs : List Event). AreSteps start xs c.push.new.self.items new.state) (sym next)
          (subst (λ (ys : List (Option Step)). AreSteps start (es ++ e ∷ []) ys new.state)
          (sym c.in_ok-push.ensures.items)
          (steps_push start old.state new.state es c.loop-event.answers.items e c.match-step.answer inv.steps answer));
      others = differs c.args.world.now old new c.requires inv.others c.step.ensures.others fine;
    }
