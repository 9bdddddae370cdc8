-- What a part has after a step.
use Rattle.std.proofs.Common.{◌≡◌, ◌≢◌, ℕ, max, ◌+◌, ◌<◌, ◌≤◌, Bool, true, false, cond, List, [], ◌∷◌, ◌++◌, length, map, set, Contains, AllPairs, IsTrue, get_or, eqb, refl, sym, ap, ◌∙◌, subst, inl, inr, ◌⊎◌, ⊎_elim, arith, length-append}
use Rattle.std.proofs.lemmas.Bool.{cases_eq, cases_lt}
use Rattle.std.proofs.lemmas.List.{get_or-map, length-map, get_or_default, get_or-set_same, get_or-set_other, length-set}
use Rattle.std.proofs.lemmas.List.Elements.{Contains-append_left, Contains-push, Contains-push_cases, filter-append}
use Rattle.std.proofs.lemmas.List.Quantifiers.{all_pairs_push}
use Rattle.fixpoint.specs.Limits.{most_growths}
use Rattle.fixpoint.specs.Rules.{Rules, AreLawful}
use Rattle.fixpoint.specs.Logs.{IsTold, IsLogOf, IsWellSupported, tells, tells_before, part}
use Rattle.fixpoint.specs.State.{State, IsSoundPart, IsNoted, Passes, list_in, received_from, part_for, given_to}
use Rattle.fixpoint.proofs.LogLemmas.{list_own, list_other, tells_from, tells_to, before_from, before_to}
use Rattle.keeper.specs.Engine.{MayEnter, with_fact}
use Rattle.keeper.specs.Keeping.{IsKept, has, with_heard}
use Rattle.keeper.proofs.ListLemmas.{IsIn, or_cases, or_left, or_right, same_truth}

-- ---- a part that goes on

module _ {A F G : Type 0} (rules : Rules A F G) (lawful : AreLawful rules) where
  -- what follows from facts follows from more of them
  pub derives_more : (a : A) → rules.valid a → (known more : F → Bool) → ((f : F) → IsTrue (known f) → IsTrue (more f))
      → (f : F) → rules.derives a known f → rules.derives a more f
  derives_more a ok known more each f h = lawful.local a ok known more f (λ g sees k. each g k) h

  told_in : (xs ys : List G) → IsIn xs ys → (f : F) → IsTold rules xs f → IsTold rules ys f
  told_in xs ys more f h = (h.0, more h.0 h.1, h.2)

  tells_in : (xs ys : List G) → IsIn xs ys → (f : F) → IsTrue (tells rules xs f) → IsTrue (tells rules ys f)
  tells_in xs ys more f h =
      tells_to rules lawful.same_tells ys f (told_in xs ys more f (tells_from rules lawful.same_tells xs f h))

  before_in : (xs ys : List G) → IsIn xs ys → (rank : ℕ) (f : F) → IsTrue (tells_before rules rank xs f)
      → IsTrue (tells_before rules rank ys f)
  before_in xs ys more rank f h = grind (arith, before_from, before_to)

  supported_in : (a : A) → rules.valid a → (old new : F → List G) → ((f : F) → IsIn (old f) (new f))
      → (log : List G) → IsWellSupported rules a old log → IsWellSupported rules a new log
  supported_in a ok old new more log h g at =
      derives_more a ok (λ f. tells_before rules (rules.rank g) (old f) f)
      (λ f. tells_before rules (rules.rank g) (new f) f)
      (λ f t. before_in (old f) (new f) (more f) (rules.rank g) f t) (rules.fact g) (h g at)

  -- a list of growths of different facts is short
  few_in : (a : A) → rules.valid a → (log : List G)
      → ((g : G) → Contains log g → rules.proper a (rules.fact g))
      → AllPairs (λ (g h : G). rules.fact g ≡ rules.fact h → ⊥) log → length log < most_growths
  few_in a ok [] proper once = omega arith
  few_in a ok (first ∷ rest) proper once =
      let few = lawful.few_facts a ok (map rules.fact log) (record { each = each; once = apart }) in
      omega (arith, few, length-map log rules.fact)
    where
      log : List G
      log = first ∷ rest

      each : (f : F) → Contains (map rules.fact log) f → rules.proper a f
      each f (k, l, h) =
          let low : k < length log = omega (arith, l, length-map log rules.fact) in
          let g = get_or log k first in
          subst (λ (x : F). rules.proper a x) (sym (get_or-map rules.fact log k first f low) ∙ h)
          (proper g (k, low, get_or_default log k g first low))

      apart : AllPairs (λ (f g : F). f ≡ g → ⊥) (map rules.fact log)
      apart i j d before l same =
          let low : j < length log = omega (arith, l, length-map log rules.fact) in
          once i j first before low
          (sym (get_or-map rules.fact log i first d (omega (arith, before, low)))
          ∙ (same ∙ get_or-map rules.fact log j first d low))

  -- ---- an own fact grows

  module _ (o : State A G) (clock : ℕ) (kept : IsKept rules o clock) (fact : F) (growth : G)
      (fact_is : rules.fact growth ≡ fact) (rank_is : rules.rank growth ≡ clock + 1)
      (found : MayEnter rules o.system o.me (has rules o) fact)
      (lacks : IsTrue (has rules o fact) → ⊥) where
    abbrev pub grown : State A G
    grown = record o { log = o.log ++ growth ∷ [] }

    longer : (f : F) → IsIn (list_in rules o f) (list_in rules grown f)
    longer f = go (eqb (rules.owner o.system f) o.me)
      where
        go : (t : Bool) → IsIn (cond t o.log (received_from o (rules.owner o.system f)))
            (cond t (o.log ++ growth ∷ []) (received_from o (rules.owner o.system f)))
        go true g h = Contains-append_left o.log (growth ∷ []) g h
        go false g h = h

    rank_low : (f : F) (g : G) → Contains (list_in rules o f) g → rules.rank g < rules.rank growth
    rank_low f g at = ⊎_elim
        (λ same. let l = kept.own_ranks g
        (subst (λ xs. Contains xs g) (list_own rules o.system o.me o.log (received_from o) f same) at) in
        omega (arith, l, rank_is))
        (λ other. let l = kept.heard_ranks (rules.owner o.system f) g
        (subst (λ xs. Contains xs g) (list_other rules o.system o.me o.log (received_from o) f other) at) in
        omega (arith, l, rank_is))
        (cases_eq (rules.owner o.system f) o.me)

    -- all that the part has knows below the next rank
    below : (f : F) → IsTrue (has rules o f)
        → IsTrue (tells_before rules (rules.rank growth) (list_in rules grown f) f)
    below f h =
        let t = tells_from rules lawful.same_tells (list_in rules o f) f h in
        before_to rules lawful.same_tells (rules.rank growth) (list_in rules grown f) f t.0 (longer f t.0 t.1) t.2
        (rank_low f t.0 t.1)

    own_list : (p : State A G) → p.system ≡ o.system → p.me ≡ o.me → list_in rules p fact ≡ p.log
    own_list p system me = list_own rules p.system p.me p.log (received_from p) fact
        (subst (λ (x : A). rules.owner x fact ≡ p.me) (sym system) (found.own ∙ sym me))

    fresh : (g : G) → Contains o.log g → rules.fact g ≡ fact → ⊥
    fresh g at is = grind (arith, tells_to, own_list)

    grown_well_formed : IsLogOf rules o.system o.me (o.log ++ growth ∷ [])
    grown_well_formed = record {
      own = λ g h. ⊎_elim (λ old. kept.sound.well_formed.own g old)
          (λ is. subst (λ (g : G). rules.owner o.system (rules.fact g) ≡ o.me) is
          (ap (rules.owner o.system) fact_is ∙ found.own))
          (Contains-push_cases o.log growth g h);
      once = all_pairs_push (λ (g h : G). rules.fact g ≡ rules.fact h → ⊥) o.log growth kept.sound.well_formed.once
          (λ k d l same. fresh (get_or o.log k d) (k, l, get_or_default o.log k (get_or o.log k d) d l)
          (same ∙ fact_is));
      rising = all_pairs_push (λ (g h : G). rules.rank g < rules.rank h) o.log growth kept.sound.well_formed.rising
          (λ k d l. let r = kept.own_ranks (get_or o.log k d) (k, l, get_or_default o.log k (get_or o.log k d) d l) in
          omega (arith, r, rank_is));
      from_one = λ g h. ⊎_elim (λ old. kept.sound.well_formed.from_one g old)
          (λ is. subst (λ (g : G). 1 ≤ rules.rank g) is (omega (arith, rank_is)))
          (Contains-push_cases o.log growth g h);
    }

    grown_supported : IsWellSupported rules o.system (list_in rules grown) (o.log ++ growth ∷ [])
    grown_supported g h = ⊎_elim
        (λ old. supported_in o.system kept.sound.valid (list_in rules o) (list_in rules grown) longer o.log
        kept.sound.supported g old)
        (λ is. subst (λ (g : G).
        rules.derives o.system (λ f. tells_before rules (rules.rank g) (list_in rules grown f) f) (rules.fact g)) is
        (derives_more o.system kept.sound.valid (has rules o)
        (λ f. tells_before rules (rules.rank growth) (list_in rules grown f) f) below (rules.fact growth)
        (subst (λ (f : F). rules.derives o.system (has rules o) f) (sym fact_is) found.follows)))
        (Contains-push_cases o.log growth g h)

    grown_proper : (g : G) → Contains (o.log ++ growth ∷ []) g → rules.proper o.system (rules.fact g)
    grown_proper g h = ⊎_elim (λ old. kept.sound.proper g old)
        (λ is. subst (λ (g : G). rules.proper o.system (rules.fact g)) is
        (subst (rules.proper o.system) (sym fact_is) found.proper))
        (Contains-push_cases o.log growth g h)

    grown_few : length (o.log ++ growth ∷ []) < most_growths
    grown_few = few_in o.system kept.sound.valid (o.log ++ growth ∷ []) grown_proper grown_well_formed.once

    part_longer : (j : ℕ) → part_for rules grown j ≡ part_for rules o j ++ part rules o.system j (growth ∷ [])
    part_longer j = filter-append _ o.log (growth ∷ [])

    known_still : (h : G) → IsNoted o h → IsNoted grown h
    known_still h k =
        ⊎_elim (λ (a : Contains o.log h). inl (Contains-append_left o.log (growth ∷ []) h a))
        (λ (b : (j : ℕ) × Contains (received_from o j) h). inr b) k

    pub grown_sound : IsSoundPart rules grown
    grown_sound = record {
      valid = kept.sound.valid;
      me = kept.sound.me;
      well_formed = grown_well_formed;
      supported = grown_supported;
      proper = grown_proper;
      few = grown_few;
      senders = kept.sound.senders;
      heard = kept.sound.heard;
      steps = λ g h more. ⊎_elim
          (λ old. let x = kept.sound.steps g old more in (x.0, known_still x.0 x.1, x.2))
          (λ is. ⊎_elim
          (λ (none : clock ≡ 0). absurd (let r = ap rules.rank is in omega (arith, r, rank_is, none, more)))
          (λ (t : (h : G) × IsNoted o h × (rules.rank h ≡ clock)).
          (t.0, known_still t.0 t.1, (let r = ap rules.rank is in let e = t.2 in omega (arith, r, rank_is, e))))
          kept.top)
          (Contains-push_cases o.log growth g h);
      receivers = kept.sound.receivers;
      given = grind (arith, part_longer, length-append);
    }

    pub grown_kept : IsKept rules grown (clock + 1)
    grown_kept = record {
      sound = grown_sound;
      own_ranks = λ g h. ⊎_elim (λ old. (let l = kept.own_ranks g old in omega (arith, l)))
          (λ is. subst (λ (g : G). rules.rank g ≤ clock + 1) is (omega (arith, rank_is)))
          (Contains-push_cases o.log growth g h);
      heard_ranks = λ j g h. (let l = kept.heard_ranks j g h in omega (arith, l));
      top = inr (growth, inl (Contains-push o.log growth), rank_is);
      early = omega (arith, kept.early, length-append o.log (growth ∷ []));
    }

    pub grown_has : (f : F) → has rules grown f ≡ with_fact rules fact (has rules o) f
    grown_has f = same_truth (has rules grown f) (with_fact rules fact (has rules o) f) to from
      where
        to : has rules grown f ≡ true → with_fact rules fact (has rules o) f ≡ true
        to h =
            let t = tells_from rules lawful.same_tells (list_in rules grown f) f h in
            ⊎_elim
            (λ same. ⊎_elim
            (λ (old : Contains o.log t.0). or_right (rules.same fact f) (has rules o f)
            (tells_to rules lawful.same_tells (list_in rules o f) f (
              t.0,
              subst (λ xs. Contains xs t.0) (sym (list_own rules o.system o.me o.log (received_from o) f same)) old,
              t.2,
            )))
            (λ (is : growth ≡ t.0). or_left (rules.same fact f) (has rules o f)
            ((lawful.same_tells fact f).1 (sym fact_is ∙ (ap rules.fact is ∙ t.2))))
            (Contains-push_cases o.log growth t.0
            (subst (λ xs. Contains xs t.0)
            (list_own rules o.system o.me (o.log ++ growth ∷ []) (received_from o) f same) t.1)))
            (λ other. or_right (rules.same fact f) (has rules o f)
            (tells_to rules lawful.same_tells (list_in rules o f) f (
              t.0,
              subst (λ xs. Contains xs t.0)
                  (list_other rules o.system o.me (o.log ++ growth ∷ []) (received_from o) f other
                  ∙ sym (list_other rules o.system o.me o.log (received_from o) f other)) t.1,
              t.2,
            )))
            (cases_eq (rules.owner o.system f) o.me)

        from : with_fact rules fact (has rules o) f ≡ true → has rules grown f ≡ true
        from h = ⊎_elim
            (λ same. let is = (lawful.same_tells fact f).0 same in
            subst (λ g. has rules grown g ≡ true) is
            (tells_to rules lawful.same_tells (list_in rules grown fact) fact (
              growth,
              subst (λ xs. Contains xs growth) (sym (own_list grown refl refl)) (Contains-push o.log
                  growth),
              fact_is,
            )))
            (λ old. tells_in (list_in rules o f) (list_in rules grown f) (longer f) f old)
            (or_cases (rules.same fact f) (has rules o f) h)

  -- ---- a growth is received

  module _ (o : State A G) (clock : ℕ) (kept : IsKept rules o clock) (from : ℕ) (g : G)
      (passes : Passes rules o.system o.me from g) where
    abbrev pub told_of : State A G
    told_of = record o { received = with_heard o.received from g }

    told_other : rules.owner o.system (rules.fact g) ≢ o.me
    told_other = (lawful.others o.system kept.sound.valid o.me (rules.fact g) passes.read).1

    pub from_in : from < length o.received
    from_in = grind arith

    received_here : received_from told_of from ≡ received_from o from ++ g ∷ []
    received_here = get_or-set_same o.received from (received_from o from ++ g ∷ []) [] from_in

    received_other : (j : ℕ) → j ≢ from → received_from told_of j ≡ received_from o j
    received_other j h = get_or-set_other o.received from j (received_from o from ++ g ∷ []) [] h

    received_cases : (j : ℕ) (h : G) → Contains (received_from told_of j) h
        → Contains (received_from o j) h ⊎ ((j ≡ from) × (g ≡ h))
    received_cases j h at = ⊎_elim
        (λ same. ⊎_elim
        (λ old. inl (subst (λ i. Contains (received_from o i) h) (sym same) old))
        (λ is. inr (same, is))
        (Contains-push_cases (received_from o from) g h
        (subst (λ xs. Contains xs h) received_here (subst (λ i. Contains (received_from told_of i) h) same at))))
        (λ differs. inl (subst (λ xs. Contains xs h) (received_other j differs) at))
        (cases_eq j from)

    received_more : (j : ℕ) → IsIn (received_from o j) (received_from told_of j)
    received_more j h at = ⊎_elim
        (λ same. subst (λ i. Contains (received_from told_of i) h) (sym same)
        (subst (λ xs. Contains xs h) (sym received_here)
        (Contains-append_left (received_from o from) (g ∷ []) h
        (subst (λ i. Contains (received_from o i) h) same at))))
        (λ differs. subst (λ xs. Contains xs h) (sym (received_other j differs)) at)
        (cases_eq j from)

    told_longer : (f : F) → IsIn (list_in rules o f) (list_in rules told_of f)
    told_longer f = go (eqb (rules.owner o.system f) o.me)
      where
        go : (t : Bool) → IsIn (cond t o.log (received_from o (rules.owner o.system f)))
            (cond t o.log (received_from told_of (rules.owner o.system f)))
        go true h at = at
        go false h at = received_more (rules.owner o.system f) h at

    told_known : (h : G) → IsNoted o h → IsNoted told_of h
    told_known h k = grind (arith, ⊎_elim, received_more)

    pub told_sound : IsSoundPart rules told_of
    told_sound = record {
      valid = kept.sound.valid;
      me = kept.sound.me;
      well_formed = kept.sound.well_formed;
      supported = supported_in o.system kept.sound.valid (list_in rules o) (list_in rules told_of) told_longer o.log
          kept.sound.supported;
      proper = kept.sound.proper;
      few = kept.sound.few;
      senders = length-set o.received from (received_from o from ++ g ∷ []) ∙ kept.sound.senders;
      heard = λ j h at. ⊎_elim (λ old. kept.sound.heard j h old)
          (λ (is : (j ≡ from) × (g ≡ h)). subst
          (λ (x : G). (rules.owner o.system (rules.fact x) ≡ j)
          × (rules.reads o.system o.me (rules.fact x) ≡ true)) is.1
          (passes.sender ∙ sym is.0, passes.read)) (received_cases j h at);
      steps = λ h at more. let x = kept.sound.steps h at more in (x.0, told_known x.0 x.1, x.2);
      receivers = kept.sound.receivers;
      given = kept.sound.given;
    }

    pub told_kept : IsKept rules told_of (max clock (rules.rank g))
    told_kept = record {
      sound = told_sound;
      own_ranks = λ h at. (let l = kept.own_ranks h at in omega (arith, l));
      heard_ranks = λ j h at. ⊎_elim (λ old. (let l = kept.heard_ranks j h old in omega (arith, l)))
          (λ (is : (j ≡ from) × (g ≡ h)). subst (λ (x : G). rules.rank x ≤ max clock (rules.rank g)) is.1 (omega arith))
          (received_cases j h at);
      top = ⊎_elim
          (λ (same : max clock (rules.rank g) ≡ clock). ⊎_elim
          (λ (none : clock ≡ 0). inl (same ∙ none))
          (λ (t : (h : G) × IsNoted o h × (rules.rank h ≡ clock)).
          inr (t.0, told_known t.0 t.1, t.2 ∙ sym same))
          kept.top)
          (λ (is : max clock (rules.rank g) ≡ rules.rank g). inr (
            g,
            inr (from, subst (λ xs. Contains xs g) (sym received_here) (Contains-push (received_from o from) g)),
            sym is,
          ))
          either;
      early = omega (arith, kept.early, passes.rank);
    }
      where
        either : (max clock (rules.rank g) ≡ clock) ⊎ (max clock (rules.rank g) ≡ rules.rank g)
        either = ⊎_elim (λ l. inr (omega (arith, l))) (λ l. inl (omega (arith, l))) (cases_lt clock (rules.rank g))

    pub told_has : (f : F) → has rules told_of f ≡ with_fact rules (rules.fact g) (has rules o) f
    told_has f = same_truth (has rules told_of f) (with_fact rules (rules.fact g) (has rules o) f) to from_it
      where
        to : has rules told_of f ≡ true → with_fact rules (rules.fact g) (has rules o) f ≡ true
        to h =
            let t = tells_from rules lawful.same_tells (list_in rules told_of f) f h in
            ⊎_elim
            (λ same. or_right (rules.same (rules.fact g) f) (has rules o f)
            (tells_to rules lawful.same_tells (list_in rules o f) f (
              t.0,
              subst (λ xs. Contains xs t.0)
                  (list_own rules o.system o.me o.log (received_from told_of) f same
                  ∙ sym (list_own rules o.system o.me o.log (received_from o) f same)) t.1,
              t.2,
            )))
            (λ differs. ⊎_elim
            (λ old. or_right (rules.same (rules.fact g) f) (has rules o f)
            (tells_to rules lawful.same_tells (list_in rules o f) f (
              t.0,
              subst (λ xs. Contains xs t.0)
                  (sym (list_other rules o.system o.me o.log (received_from o) f differs)) old,
              t.2,
            )))
            (λ (is : (rules.owner o.system f ≡ from) × (g ≡ t.0)). or_left (rules.same (rules.fact g) f) (has rules o f)
            ((lawful.same_tells (rules.fact g) f).1 (ap rules.fact is.1 ∙ t.2)))
            (received_cases (rules.owner o.system f) t.0
            (subst (λ xs. Contains xs t.0) (list_other rules o.system o.me o.log (received_from told_of) f
            differs) t.1)))
            (cases_eq (rules.owner o.system f) o.me)

        from_it : with_fact rules (rules.fact g) (has rules o) f ≡ true → has rules told_of f ≡ true
        from_it h = ⊎_elim
            (λ same. let is = (lawful.same_tells (rules.fact g) f).0 same in
            subst (λ x. has rules told_of x ≡ true) is
            (tells_to rules lawful.same_tells (list_in rules told_of (rules.fact g)) (rules.fact g) (
              g,
              subst (λ xs. Contains xs g)
                  (sym (list_other rules o.system o.me o.log (received_from told_of) (rules.fact g) told_other
                  ∙ (ap (received_from told_of) passes.sender ∙ received_here)))
                  (Contains-push (received_from o from) g),
              refl,
            )))
            (λ old. tells_in (list_in rules o f) (list_in rules told_of f) (told_longer f) f old)
            (or_cases (rules.same (rules.fact g) f) (has rules o f) h)

  -- ---- the marks of a call

  pub marked_kept : (o : State A G) (clock : ℕ) (is_loaded is_broken : Bool) → IsKept rules o clock
      → IsKept rules (record o { loaded = is_loaded; broken = is_broken }) clock
  marked_kept o clock is_loaded is_broken k = grind arith

  -- ---- giving out

  module _ (o : State A G) (clock : ℕ) (kept : IsKept rules o clock) (to n : ℕ) (to_in : to < rules.parts o.system)
      (n_is : given_to o to ≡ n) (more : given_to o to < length (part_for rules o to)) where
    abbrev pub given_of : State A G
    given_of = record o { given = set o.given to (n + 1) }

    here : given_to given_of to ≡ n + 1
    here = get_or-set_same o.given to (n + 1) 0 (omega (arith, kept.sound.receivers, to_in))

    there_other : (j : ℕ) → j ≢ to → given_to given_of j ≡ given_to o j
    there_other j h = get_or-set_other o.given to j (n + 1) 0 h

    pub given_kept : IsKept rules given_of clock
    given_kept = grind (arith, length-set, ⊎_elim, here, there_other, cases_eq)
