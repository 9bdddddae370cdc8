-- What the log of the only owner tells.
use Rattle.std.proofs.Common.{◌≡◌, ◌↔◌, ℕ, ◌<◌, List, [], ◌∷◌, Contains, arith, refl, sym, ap, ◌∙◌, subst, inl, ⊎_elim}
use Rattle.fixpoint.specs.Rules.{Rules, AreLawful, IsLeast, Sees}
use Rattle.fixpoint.specs.Logs.{IsTold, IsWellSupported, AreSound, AreSettled, list_of, log_of, part}
use Rattle.fixpoint.specs.State.{State, IsSoundPart, IsDone, received_from}
use Rattle.fixpoint.specs.Finishing.{AreRanked}
use Rattle.fixpoint.proofs.LawLemmas.{least_exact, in_range}
use Rattle.fixpoint.proofs.LogLemmas.{list_own}
use Rattle.fixpoint.proofs.RankLemmas.{ranks_low}

module _ {A F G : Type 0} (rules : Rules A F G) (lawful : AreLawful rules) (o : State A G)
    (one : rules.parts o.system ≡ 1) (sound : IsSoundPart rules o) (done : IsDone rules o) where
  abbrev logs : List (List G)
  logs = o.log ∷ []

  abbrev received : ℕ → ℕ → List G
  received i j = received_from o j

  -- there is no owner but that of the part
  only : (i : ℕ) → i < rules.parts o.system → i ≡ o.me
  only i low = let mine = sound.me in omega (arith, low, mine, one)

  log_is : (i : ℕ) → i < rules.parts o.system → log_of logs i ≡ o.log
  log_is i low =
      let zero : i ≡ 0 = omega (arith, low, one) in subst (λ k. log_of logs k ≡ o.log) (sym zero) refl

  none_other : {X : Type 0} (i j : ℕ) → i < rules.parts o.system → j < rules.parts o.system
      → (i ≡ j → ⊥) → X
  none_other i j li lj other = absurd (other (only i li ∙ sym (only j lj)))

  are_sound : AreSound rules o.system logs received
  are_sound = grind (arith, log_is, only, none_other)

  are_settled : AreSettled rules o.system logs received
  are_settled = grind (arith, log_is, only, none_other)

  least : (f : F) → IsTold rules (log_of logs (rules.owner o.system f)) f ↔ IsLeast rules o.system f
  least = least_exact rules lawful o.system sound.valid logs received are_sound are_settled

  pub tells_least : (f : F) → IsTold rules o.log f ↔ IsLeast rules o.system f
  tells_least f = (
    λ h.
        let mine : rules.owner o.system f ≡ o.me = ap (rules.owner o.system) (sym h.2)
        ∙ sound.well_formed.own h.0 h.1 in
        let low = subst (λ k. k < rules.parts o.system) (sym mine) sound.me in
        (least f).0 (subst (λ log. IsTold rules log f) (sym (log_is _ low)) h),
    λ l.
        let h = (least f).1 l in
        let low = in_range rules lawful o.system sound.valid logs received are_sound f h in
        subst (λ log. IsTold rules log f) (log_is _ low) h,
  )

  -- the only owner looks up in its log what it sees, whatever it received
  own_list : (got : ℕ → List G) (f : F) → Sees rules o.system o.me f
      → list_of rules o.system o.me o.log got f ≡ o.log
  own_list got f sees = ⊎_elim (λ own. list_own rules o.system o.me o.log got f own)
      (λ read. let other = lawful.others o.system sound.valid o.me f read in absurd (other.1 (only _ other.0))) sees

  abbrev told : ℕ → ℕ → List G
  told i j = part rules o.system i (log_of logs j)

  supported_so : IsWellSupported rules o.system (list_of rules o.system o.me o.log (told o.me)) o.log
  supported_so g at = grind (arith, own_list)

  pub logs_sound : AreSound rules o.system logs told
  logs_sound = grind (arith, are_sound, log_is, only, supported_so, none_other)

  pub logs_ranked : AreRanked rules o.system logs
  logs_ranked = record {
    next = λ i g l at more.
        let s = sound.steps g (subst (λ xs. Contains xs g) (log_is i l) at) more in (
          s.0,
          ⊎_elim (λ own. inl (subst (λ xs. Contains xs s.0) (sym (log_is i l)) own))
              (λ t.
              let heard = sound.heard t.0 s.0 t.1 in
              let other = lawful.others o.system sound.valid o.me (rules.fact s.0) heard.1 in
              absurd (other.1 (only _ other.0)))
              s.1,
          s.2,
        );
    low = λ i g l at.
        ranks_low rules lawful o.system sound.valid (λ k. o) (λ k m. sound) (λ k m. refl) (λ k m. sym (only k m))
        (λ k j h lk lj other heard. none_other k j lk lj other) i g l (subst (λ xs. Contains xs g) (log_is i l) at);
  }
