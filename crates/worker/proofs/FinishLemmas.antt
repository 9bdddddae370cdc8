-- What a worker's end comes to.
use Rattle.std.proofs.Common.{◌≡◌, ◌≢◌, ℕ, ◌+◌, ◌<◌, List, length, sym, ap, ◌∙◌, subst, arith}
use Rattle.fixpoint.specs.Logs.{log_of}
use Rattle.fixpoint.specs.State.{State, IsSoundPart, part_for}
use Rattle.fixpoint.specs.declared.ending.Ending.{Ending}
use Rattle.fixpoint.specs.declared.ending.Ending.TheVariants.{Quiet, Stray}
use Rattle.worker.specs.declared.tally.Tally.{Tally}
use Rattle.fixpoint.specs.Sums.{sum_to}
use Rattle.worker.specs.Tallies.{HasGrown}
use Rattle.worker.specs.Turning.{IsAtRest, HasPosted, HasTakenAll}
use Rattle.worker.specs.Finishing.{FinishedAs, IsPartOf}
use Rattle.fixpoint.specs.Finishing.{Finishes, HasStray}
use Rattle.fixpoint.proofs.SumLemmas.{sum_same}
use Rattle.worker.proofs.PostLemmas.{posts_front, posts_all}
use Rattle.worker.proofs.TurnLemmas.{taken_all}
use Rattle.fixpoint.specs.Rules.{Rules}

module _ {A F G : Type 0} (rules : Rules A F G) where
  -- it is of the same problem, cut and number after it gave out more, or grew
  pub is_given : (a : A) (i : ℕ) (old new : State A G) → new ≡ record old { given = new.given }
      → IsPartOf a i old → IsPartOf a i new
  is_given a i old new others is =
      record {
        system = ap (λ (o : State A G). o.system) others ∙ is.system;
        me = ap (λ (o : State A G). o.me) others ∙ is.me;
      }

  pub is_grown : (a : A) (i : ℕ) (old new : State A G) → HasGrown old new → IsPartOf a i old
      → IsPartOf a i new
  is_grown a i old new h is = record { system = h.system ∙ is.system; me = h.me ∙ is.me }

  module _ (a : A) (i : ℕ) (o : State A G) (posts taken : List (List G)) (owed cleared : ℕ)
      (is : IsPartOf a i o) (posted : HasPosted rules o posts) where
    inside : (j : ℕ) → j < (rules.parts a) → j < (rules.parts o.system)
    inside j l = subst (λ (k : A). j < rules.parts k) (sym is.system) l

    pub finishes_fail : (ending : Ending) → IsSoundPart rules o → HasTakenAll rules o taken → ending ≢ Quiet → ending ≢
        Stray
        → Finishes rules a i o (log_of posts) (log_of taken) owed cleared ending
    finishes_fail ending sound all quiet stray = grind (arith, posts_front, inside)

    pub finishes_stray : IsSoundPart rules o → HasStray rules o.system o.me (log_of taken) → HasTakenAll rules o taken
        → Finishes rules a i o (log_of posts) (log_of taken) owed cleared Stray
    finishes_stray sound witness all = record {
      system = is.system;
      me = is.me;
      sound = sound;
      front = λ j l. posts_front rules o posts posted j (inside j l);
      heard = λ e. absurd (stray_is_not_quiet e);
      stray = λ e. subst (λ n. HasStray rules a n (log_of taken)) is.me
          (subst (λ k. HasStray rules k o.me (log_of taken)) is.system witness);
      taken = λ j g l. all j g (inside j l);
      done = λ e. absurd (stray_is_not_quiet e);
      whole = λ e. absurd (stray_is_not_quiet e);
      owes = λ e. absurd (stray_is_not_quiet e);
      clears = λ e. absurd (stray_is_not_quiet e);
    }
      where
        stray_is_not_quiet : Stray ≡ Quiet → ⊥
        stray_is_not_quiet e = cc

    -- the worker is at rest and has nothing left to post
    pub finishes_quiet : (t : Tally) → IsAtRest rules o taken owed cleared t → t.waiting ≡ 0
        → Finishes rules a i o (log_of posts) (log_of taken) owed cleared Quiet
    finishes_quiet t r none =
        let whole : (j : ℕ) → j < (rules.parts o.system)
        → log_of posts j ≡ part_for rules o j = posts_all rules o posts t r.working.sound posted r.counted none in
        let sums =
        sum_same (rules.parts o.system) (λ j. length (log_of posts j)) (λ j. length (part_for rules o j))
        (λ j l. ap length (whole j l)) in
        record {
          system = is.system;
          me = is.me;
          sound = r.working.sound;
          front = λ j l. posts_front rules o posts posted j (inside j l);
          heard = λ e j l. r.taking.heard j (inside j l);
          stray = λ e. absurd (quiet_is_not_stray e);
          taken = λ j g l h. taken_all rules o taken cleared 0 r.taking j g (inside j l) h;
          done = λ e. r.working.done;
          whole = λ e j l. whole j (inside j l);
          owes = λ e. subst (λ (k : A). owed ≡ 1 + sum_to (rules.parts k) (λ j. length (log_of posts j))) is.system
              (let w = r.working.owes in omega (arith, w, sums));
          clears = grind arith;
        }
      where
        quiet_is_not_stray : Quiet ≡ Stray → ⊥
        quiet_is_not_stray e = cc

  pub finishes_left : (a : A) (i : ℕ) (o : State A G) (sent got : ℕ → List G)
      (owed cleared owed' cleared' : ℕ) (ending : Ending) → owed' ≡ owed → cleared' ≡ cleared
      → Finishes rules a i o sent got owed cleared ending → Finishes rules a i o sent got owed' cleared' ending
  finishes_left a i o sent got owed cleared owed' cleared' ending p r f =
      subst (λ (y : ℕ × ℕ). Finishes rules a i o sent got y.0 y.1 ending) (λ k. (sym p k, sym r k)) f

  -- what a worker gives back whose part rules handed out its log and what it says
  pub finished_as : {Y : Type 0} (yields : A → ℕ → List G → Y → Type 0) (a : A) (i : ℕ) (o : State A G)
      (sent got : ℕ → List G) (owed cleared : ℕ)
      (ending : Ending) (log : List G) (yielded : Y) → log ≡ o.log
      → Finishes rules a i o sent got owed cleared ending → yields o.system o.me o.log yielded
      → FinishedAs rules yields a i sent got owed cleared ending log yielded
  finished_as {Y} yields a i o sent got owed cleared ending log yielded is f values = (
    o,
    sym is,
    f,
    subst (λ (y : A × ℕ × List G). yields y.0 y.1 y.2 yielded)
        (λ k. (f.system k, f.me k, sym is k)) values,
  )
