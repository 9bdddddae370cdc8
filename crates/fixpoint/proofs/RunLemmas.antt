-- What follows from what the workers give back.
use Rattle.std.proofs.Common.{◌≡◌, ◌≢◌, ℕ, ◌<◌, true, IsTrue, List, [], ◌++◌, length, Contains, refl, sym, ap, ◌∙◌, subst, inl, inr, ⊎_elim, arith}
use Rattle.std.proofs.lemmas.Bool.{cases_eq}
use Rattle.std.proofs.lemmas.List.Elements.{Contains-append_left}
use Rattle.fixpoint.specs.Limits.{most_growths}
use Rattle.fixpoint.specs.Rules.{Rules, Sees, AreLawful}
use Rattle.fixpoint.specs.Logs.{IsLogOf, part, IsTold, tells, tells_before, list_of, log_of, AreSound, AreSettled, SayLeast}
use Rattle.fixpoint.specs.State.{State, Passes, list_in, received_from, part_for}
use Rattle.fixpoint.specs.Sums.{sum_to}
use Rattle.fixpoint.specs.Finishing.{Finishes, AreRanked}
use Rattle.fixpoint.specs.declared.ending.Ending.{Ending}
use Rattle.fixpoint.specs.declared.ending.Ending.TheVariants.{Quiet, Stray}
use Rattle.fixpoint.proofs.ListLemmas.{filter_from}
use Rattle.fixpoint.proofs.LogLemmas.{list_own, list_other}
use Rattle.fixpoint.proofs.LawLemmas.{least_exact}
use Rattle.fixpoint.proofs.RankLemmas.{ranks_low, of_another, of_owner}
use Rattle.fixpoint.proofs.SumLemmas.{delivered}

module _ {A F G : Type 0} (rules : Rules A F G) (lawful : AreLawful rules) (a : A) (ok : rules.valid a)
    (state : ℕ → State A G) (sent got rest : ℕ → ℕ → List G) (owed cleared : ℕ → ℕ) (ending : ℕ → Ending)
    (ends : (i : ℕ) → i < rules.parts a
    → Finishes rules a i (state i) (sent i) (λ j. got j i) (owed i) (cleared i) (ending i))
    (tied : (i j : ℕ) → i < rules.parts a → j < rules.parts a → sent i j ≡ got i j ++ rest i j) where
  part_is : (i j : ℕ) → i < rules.parts a → part_for rules (state i) j ≡ part rules a j (state i).log
  part_is i j l = ap (λ (x : A). part rules x j (state i).log) (ends i l).system

  -- what was taken stands in its sender's log
  logged : (i j : ℕ) (g : G) → i < rules.parts a → j < rules.parts a → Contains (got j i) g
      → Contains (part rules a i (state j).log) g
  logged i j g li lj h =
      let f = (ends j lj).front i li in
      let posted = subst (λ xs. Contains xs g) (sym (tied j i lj li)) (Contains-append_left (got j i) (rest j i) g h) in
      let in_part = subst (λ xs. Contains xs g) (sym f.1) (Contains-append_left (sent j i) f.0 g posted) in
      subst (λ xs. Contains xs g) (part_is j i lj) in_part

  -- no rank of a log reaches 2 ^ 37
  low : (j : ℕ) (g : G) → j < rules.parts a → Contains (state j).log g → rules.rank g < most_growths
  low j g lj h =
      ranks_low rules lawful a ok state (λ i l. (ends i l).sound) (λ i l. (ends i l).system) (λ i l. (ends i l).me)
      (λ i k w li lk differ at. (filter_from _ (state k).log w (logged i k w li lk ((ends i li).taken k w lk at))).0) j
      g lj h

  -- each growth that was taken can be its sender's
  passes : (i j : ℕ) (g : G) → i < rules.parts a → j < rules.parts a → Contains (got j i) g
      → Passes rules a i j g
  passes i j g li lj h =
      let x = filter_from _ (state j).log g (logged i j g li lj h) in
      record {
        sender =
            subst (λ (y : A). rules.owner y (rules.fact g) ≡ j) (ends j lj).system
            (subst (λ k. rules.owner (state j).system (rules.fact g) ≡ k) (ends j lj).me
            ((ends j lj).sound.well_formed.own g x.0));
        read = x.1;
        proper = subst (λ (y : A). rules.proper y (rules.fact g)) (ends j lj).system ((ends j lj).sound.proper g x.0);
        rank = (let l = low j g lj x.0 in omega (arith, l));
      }

  pub not_stray : (i : ℕ) → i < rules.parts a → ending i ≢ Stray
  not_stray i l is = let b = (ends i l).stray is in b.4 (passes i b.0 b.1 l b.2 b.3)

  module _ (logs : List (List G)) (counted : length logs ≡ rules.parts a)
      (log_is : (i : ℕ) → i < rules.parts a → log_of logs i ≡ (state i).log)
      (quiet : (i : ℕ) → i < rules.parts a → ending i ≡ Quiet)
      (sums : sum_to (rules.parts a) owed ≡ sum_to (rules.parts a) cleared) where
    arrived : (i j : ℕ) → i < rules.parts a → j < rules.parts a → (got i j ≡ sent i j) × (rest i j ≡ [])
    arrived =
        delivered (rules.parts a) sent got rest owed cleared tied (λ i l. (ends i l).owes (quiet i l))
        (λ j l. (ends j l).clears (quiet j l)) sums

    sent_whole : (i j : ℕ) → i < rules.parts a → j < rules.parts a → sent i j ≡ part rules a j (log_of logs i)
    sent_whole i j li lj = (ends i li).whole (quiet i li) j lj
        ∙ (part_is i j li ∙ ap (part rules a j) (sym (log_is i li)))

    abbrev told : ℕ → ℕ → List G
    told i j = part rules a i (log_of logs j)

    -- what an owner received is what it is told
    received_is : (i j : ℕ) → i < rules.parts a → j < rules.parts a → received_from (state i) j ≡ told i j
    received_is i j li lj = sym ((ends i li).heard (quiet i li) j lj)
        ∙ ((arrived j i lj li).0 ∙ sent_whole j i lj li)

    list_is : (i : ℕ) → i < rules.parts a → (f : F) → rules.owner a f < rules.parts a
        → list_in rules (state i) f ≡ list_of rules a i (log_of logs i) (told i) f
    list_is i l f lf =
        ap (λ (x : A). list_of rules x (state i).me (state i).log (received_from (state i)) f) (ends i l).system
        ∙ (ap (λ x. list_of rules a x (state i).log (received_from (state i)) f) (ends i l).me
        ∙ ⊎_elim
        (λ same. list_own rules a i (state i).log (received_from (state i)) f same
        ∙ (sym (log_is i l) ∙ sym (list_own rules a i (log_of logs i) (told i) f same)))
        (λ other. list_other rules a i (state i).log (received_from (state i)) f other
        ∙ (received_is i (rules.owner a f) l lf
        ∙ sym (list_other rules a i (log_of logs i) (told i) f other)))
        (cases_eq (rules.owner a f) i))

    seen_owned : (i : ℕ) (f : F) → i < rules.parts a → Sees rules a i f → rules.owner a f < rules.parts a
    seen_owned i f li s = ⊎_elim (λ (own : rules.owner a f ≡ i). subst (λ n. n < rules.parts a) (sym own) li)
        (λ (read : rules.reads a i f ≡ true). (lawful.others a ok i f read).0) s

    well_formed : (i : ℕ) → i < rules.parts a → IsLogOf rules a i (log_of logs i)
    well_formed i l =
        subst (IsLogOf rules a i) (sym (log_is i l))
        (subst (λ (x : A). IsLogOf rules x i (state i).log) (ends i l).system
        (subst (λ x. IsLogOf rules (state i).system x (state i).log) (ends i l).me (ends i l).sound.well_formed))

    pub logs_sound : AreSound rules a logs told
    logs_sound = record {
      counted = counted;
      well_formed = well_formed;
      supported = λ i l g h.
          let own : rules.owner a (rules.fact g) ≡ i = (well_formed i l).own g h in
          lawful.local a ok (λ f. tells_before rules (rules.rank g) (list_in rules (state i) f) f)
          (λ f. tells_before rules (rules.rank g) (list_of rules a i (log_of logs i) (told i) f) f) (rules.fact g)
          (λ f sees t. subst (λ xs. IsTrue (tells_before rules (rules.rank g) xs f))
          (list_is i l f (seen_owned i f l (subst (λ k. Sees rules a k f) own sees))) t)
          (subst (λ (x : A).
          rules.derives x (λ f. tells_before rules (rules.rank g) (list_in rules (state i) f) f) (rules.fact g))
          (ends i l).system
          ((ends i l).sound.supported g (subst (λ xs. Contains xs g) (log_is i l) h)));
      heard = λ i j li lj differ g h. (filter_from _ (log_of logs j) g h).0;
    }

    logs_settled : AreSettled rules a logs told
    logs_settled = record {
      saturated = λ i l f own h.
          let inside : rules.owner a f < rules.parts a = subst (λ n. n < rules.parts a) (sym own) l in
          subst (λ xs. IsTold rules xs f) (list_is i l f inside)
          ((ends i l).done (quiet i l) f
          (subst (λ (x : A). rules.owner x f ≡ (state i).me) (sym (ends i l).system) (own ∙ sym (ends i l).me))
          (subst (λ (x : A). rules.derives x (λ g. tells rules (list_in rules (state i) g) g) f) (sym (ends i l).system)
          (lawful.local a ok (λ g. tells rules (list_of rules a i (log_of logs i) (told i) g) g)
          (λ g. tells rules (list_in rules (state i) g) g) f
          (λ g sees t. subst (λ xs. IsTrue (tells rules xs g))
          (sym (list_is i l g (seen_owned i g l (subst (λ k. Sees rules a k g) own sees)))) t) h)));
      told = λ i j li lj differ. refl;
    }

    pub concludes : ((i j : ℕ) → i < rules.parts a → j < rules.parts a
        → (sent i j ≡ part rules a j (log_of logs i)) × (got i j ≡ sent i j) × (rest i j ≡ []))
        × AreSound rules a logs (λ i j. part rules a i (log_of logs j))
        × SayLeast rules a logs
    concludes = (
      (λ i j li lj. (sent_whole i j li lj, (arrived i j li lj).0, (arrived i j li lj).1)),
      logs_sound,
      least_exact rules lawful a ok logs told logs_sound logs_settled,
    )

    pub are_ranked : AreRanked rules a logs
    are_ranked = record {
      next = λ i g l at more.
          let s = (ends i l).sound.steps g (subst (λ xs. Contains xs g) (log_is i l) at) more in (
            s.0,
            ⊎_elim
                (λ own. inl (subst (λ xs. Contains xs s.0) (sym (log_is i l)) own))
                (λ (t : (j : ℕ) × Contains (received_from (state i) j) s.0).
                let inside = of_owner rules lawful a ok state (λ k m. (ends k m).sound) (λ k m. (ends k m).system)
                (λ k m. (ends k m).me) i t.0 s.0 l t.1 in
                let apart = of_another rules lawful a ok state (λ k m. (ends k m).sound) (λ k m. (ends k m).system)
                (λ k m. (ends k m).me) i t.0 s.0 l t.1 in
                inr (
                  t.0,
                  inside,
                  (λ same. apart (sym same)),
                  subst (λ xs. Contains xs s.0) (received_is i t.0 l inside) t.1,
                ))
                s.1,
            s.2,
          );
      low = λ i g l at. low i g l (subst (λ xs. Contains xs g) (log_is i l) at);
    }
