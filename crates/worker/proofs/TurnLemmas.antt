-- What a turn comes to.
use Rattle.std.proofs.Common.{◌≡◌, ◌≢◌, ℕ, zero, suc, ◌+◌, ◌*◌, ◌^◌, ◌<◌, ◌≤◌, List, [], ◌++◌, length, length-append, append_assoc, slice_set, slice_index_or, Contains, sym, ap, ◌∙◌, subst, ◌⊎◌, ⊎_elim, arith}
use Rattle.std.proofs.lemmas.Bool.{cases_eq}
use Rattle.std.proofs.lemmas.List.Elements.{Contains-append_left}
use Rattle.fixpoint.specs.Logs.{log_of}
use Rattle.nll_sets.specs.Prefix.{IsPrefix}
use Rattle.fixpoint.specs.State.{State, IsSoundPart, IsDone, received_from, given_to, part_for, with_growths, first_state}
use Rattle.worker.specs.declared.inbox.Heard.{Heard}
use Rattle.worker.specs.declared.inbox.Heard.TheVariants.{Nothing, Growths, Stray, Memory}
use Rattle.worker.specs.declared.tally.Tally.{Tally}
use Rattle.fixpoint.specs.Sums.{sum_to}
use Rattle.worker.specs.Hearing.{IsGivenUp}
use Rattle.worker.specs.Tallies.{HasGrown, IsTallied, due_of, given_of}
use Rattle.worker.specs.Turning.{IsWorking, HasTaken, IsAtRest, HasTakenAll, ComesTo, WorkerGoesOn}
use Rattle.fixpoint.specs.Finishing.{HasStray}
use Rattle.worker.specs.Mailboxes.{AreAllEmpty}
use Rattle.fixpoint.proofs.SumLemmas.{sum_same, sum_le, sum_zero}
use Rattle.worker.proofs.ListLemmas.{set_length, set_log, set_own}
use Rattle.worker.proofs.TallyLemmas.{sum_bound, due_small}
use Rattle.worker.proofs.PostLemmas.{other_read, read_replicate}
use Rattle.fixpoint.specs.Rules.{Rules}

pub sum_more : (n : ℕ) (f f' : ℕ → ℕ) (j more : ℕ) → j < n → f' j ≡ f j + more → ((k : ℕ) → k ≢ j → f' k ≡ f k)
    → sum_to n f' ≡ sum_to n f + more
sum_more zero f f' j more l e other = absurd (omega (arith, l))
sum_more (suc n) f f' j more l e other = ⊎_elim
    (λ (h : j < n). let r = sum_more n f f' j more h e other in let x = other n (λ q. absurd (omega (arith, h, q))) in
    omega (arith, r, x))
    (λ (h : j ≡ n).
    let r = sum_same n f' f (λ k m. other k (λ q. absurd (omega (arith, m, h, q)))) in
    let x : f' n ≡ f n + more = subst (λ k. f' k ≡ f k + more) h e in
    omega (arith, r, x))
    (cases_last j n l)
  where
    cases_last : (k n : ℕ) → k < suc n → (k < n) ⊎ (k ≡ n)
    cases_last k n l = grind arith

sum_empty : {G : Type 0} (n : ℕ) (lists : List (List G)) → ((j : ℕ) → log_of lists j ≡ [])
    → sum_to n (λ j. length (log_of lists j)) ≡ 0
sum_empty n lists none = sum_same n (λ j. length (log_of lists j)) (λ j. 0) (λ j l. ap length (none j)) ∙ sum_zero n

module _ {A F G : Type 0} (rules : Rules A F G) where
  -- what was taken was received
  pub taken_all : (o : State A G) (taken : List (List G)) (cleared items : ℕ) → HasTaken rules o taken
      cleared items
      → HasTakenAll rules o taken
  taken_all o taken cleared items t j g l h = subst (λ xs. Contains xs g) (sym (t.heard j l)) h

  -- so many more growths were given out
  module _ (now next : State A G) (n : ℕ) (others : next ≡ record now { given = next.given }) where
    still_due : due_of rules next ≡ due_of rules now
    still_due = ap (λ (o : State A G). due_of rules o) others

    pub more_given : (to : ℕ) → to < rules.parts now.system → given_to next to ≡ given_to now to + n
        → ((j : ℕ) → j ≢ to → given_to next j ≡ given_to now j) → given_of rules next ≡ given_of rules now + n
    more_given to lt here other =
        ap (λ (o : State A G). sum_to (rules.parts o.system) (λ j. given_to next j)) others
        ∙ sum_more (rules.parts now.system) (λ j. given_to now j) (λ j. given_to next j) to n lt here other

    module _ (sound : IsSoundPart rules next) (more : given_of rules next ≡ given_of rules now + n) where
      pub few_given : (rules.parts next.system) ≤ 64 → given_of rules now + n < 2 ^ 43
      few_given few =
          let all = sum_le (rules.parts next.system) (λ j. given_to next j) (λ j. length (part_for rules next j))
          (λ j l. sound.given j) in
          let small = due_small rules next sound few in
          omega (arith, all, small, more)

      -- they waited
      pub were_waiting : (t : Tally) → IsTallied rules now t → n ≤ t.waiting
      were_waiting t was = grind (arith, sum_le, still_due)

      pub counted_on : (t : Tally) → IsTallied rules now t → (w : ℕ) → w + n ≡ t.waiting
          → IsTallied rules next (record t { waiting = w })
      counted_on t was w less = grind (arith, still_due)

  -- how an owner is before and after it received growths, or was refused to
  pub grown_some : (old new : State A G) → IsPrefix old.log new.log
      → new ≡ record old { log = new.log; received = new.received } → HasGrown old new
  grown_some old new b others = grind arith

  pub grown_lost : (old new : State A G) (j : ℕ) (gs : List G) → IsGivenUp rules j gs old new → HasGrown
      old new
  grown_lost old new j gs lost = grind arith

  module _ (old : State A G) (taken : List (List G)) (owed cleared : ℕ) (t : Tally)
      (r : IsAtRest rules old taken owed cleared t) where
    -- more growths were taken, and received or not
    module _ (after : List (List G)) (from : ℕ) (gs : List G)
        (more : log_of after from ≡ log_of taken from ++ gs)
        (rest : after ≡ slice_set taken from (log_of after from)) where
      taken_here : (h : G) (some : List G) → IsPrefix some gs → from < (rules.parts old.system)
          → Contains (received_from old from ++ some) h → Contains (log_of after from) h
      taken_here h some begins l at =
          let all : log_of after from ≡ (received_from old from ++ some) ++ begins.0 = more
          ∙ (ap (λ xs. xs ++ gs) (r.taking.heard from l)
          ∙ (ap (λ xs. received_from old from ++ xs) begins.1
          ∙ sym (append_assoc (received_from old from) some begins.0))) in
          subst (λ xs. Contains xs h) (sym all) (Contains-append_left (received_from old from ++ some) begins.0 h at)

      taken_still : (j : ℕ) (h : G) → Contains (log_of taken j) h → Contains (log_of after j) h
      taken_still j h at = ⊎_elim
          (λ (here : j ≡ from). subst (λ k. Contains (log_of after k) h) (sym here)
          (subst (λ xs. Contains xs h) (sym more)
          (Contains-append_left (log_of taken from) gs h (subst (λ k. Contains (log_of taken k) h) here at))))
          (λ (other : j ≢ from). subst (λ xs. Contains xs h)
          (sym (ap (λ xs. log_of xs j) rest ∙ other_read taken from j (log_of after from) [] other)) at)
          (cases_eq j from)

      pub taken_same : (new : State A G) → new ≡ old → HasTakenAll rules new after
      taken_same new same =
          subst (λ (o : State A G). HasTakenAll rules o after) (sym same)
          (λ j h l at. taken_still j h (taken_all old taken cleared 0 r.taking j h l at))

      pub taken_lost : (new : State A G) → from < (rules.parts old.system) → IsGivenUp rules from gs old new →
          HasTakenAll rules new after
      taken_lost new from_in lost j h l at =
          let was : j < (rules.parts old.system) = subst (λ (o : State A G). j < (rules.parts o.system)) lost.2 l in
          let before = taken_all old taken cleared 0 r.taking in
          let got = lost.3 in
          ⊎_elim
          (λ (here : j ≡ from).
          let lists : received_from new from ≡ received_from old from ++ got.0 =
          ap (λ xs. slice_index_or xs from []) got.2
          ∙ set_log old.received from (received_from old from ++ got.0) []
          (omega (arith, from_in, r.working.sound.senders)) in
          subst (λ k. Contains (log_of after k) h) (sym here)
          (taken_here h got.0 got.1 from_in (subst (λ xs. Contains xs h) lists
          (subst (λ k. Contains (received_from new k) h) here at))))
          (λ (other : j ≢ from).
          taken_still j h
          (before j h was (subst (λ xs. Contains xs h)
          (ap (λ xs. slice_index_or xs j []) got.2
          ∙ other_read old.received from j (received_from old from ++ got.0) [] other) at)))
          (cases_eq j from)

    pub rests_same : (new : State A G) (after : List (List G)) (from : ℕ) → new ≡ old
        → log_of after from ≡ log_of taken from → after ≡ slice_set taken from (log_of after from)
        → IsAtRest rules new after owed cleared t
    rests_same new after from same none others = grind (arith, slice_set, set_own)

    module _ (new : State A G) (others : new ≡ record old { log = new.log; received = new.received }) where
      owners_same : (rules.parts new.system) ≡ (rules.parts old.system)
      owners_same = ap (λ (o : State A G). rules.parts o.system) others

      pub some_works : (owed' : ℕ) → IsSoundPart rules new → IsDone rules new → owed' ≡ 1 + due_of rules new → IsWorking
          rules new owed'
      some_works owed' sound done owes = grind arith

      module _ (from : ℕ) (gs : List G) (after : List (List G)) (from_in : from <
          (rules.parts old.system))
          (received : new.received ≡ with_growths old.received from gs)
          (more : log_of after from ≡ log_of taken from ++ gs) (rest : after ≡ slice_set taken from (log_of after from))
          (few : length (log_of after from) ≤ 2 ^ 37) where
        apart : (k : ℕ) → k ≢ from → log_of after k ≡ log_of taken k
        apart k differs = ap (λ xs. log_of xs k) rest ∙ other_read taken from k (log_of after from) [] differs

        heard_at : log_of after from ≡ received_from new from
        heard_at = grind (arith, slice_index_or, set_log)

        heard_other : (k : ℕ) → k < (rules.parts old.system) → k ≢ from → log_of after k ≡ received_from new k
        heard_other k l differs = grind (arith, apart, slice_index_or, other_read)

        by_place : (P : ℕ → Type 0) → P from → ((k : ℕ) → k ≢ from → P k) → (k : ℕ) → P k
        by_place P here there k =
            ⊎_elim (λ (e : k ≡ from). subst P (sym e) here) (λ (e : k ≢ from). there k e) (cases_eq k from)

        pub some_take : (cleared' : ℕ) → cleared' ≡ cleared + length gs → HasTaken rules new after cleared' 0
        some_take cleared' is = record {
          count = ap length rest ∙ (set_length taken from (log_of after from) ∙ (r.taking.count ∙ sym owners_same));
          heard = by_place (λ k. k < (rules.parts new.system) → log_of after k ≡ received_from new k) (λ l. heard_at)
              (λ k differs l. heard_other k (omega (arith, l, owners_same)) differs);
          few = by_place (λ k. k < (rules.parts new.system) → length (log_of after k) ≤ 2 ^ 37) (λ l. few)
              (λ k differs l. subst (λ xs. length xs ≤ 2 ^ 37) (sym (apart k differs))
              (r.taking.few k (omega (arith, l, owners_same))));
          clears =
              let s = sum_more (rules.parts old.system) (λ k. length (log_of taken k)) (λ k. length
              (log_of after k)) from
              (length gs) from_in
              (ap length more ∙ length-append (log_of taken from) gs) (λ k differs. ap length (apart k differs)) in
              let same = ap (λ n. sum_to n (λ k. length (log_of after k))) owners_same in
              omega (arith, is, s, same, r.taking.clears);
        }

  -- few items are cleared
  pub cleared_small : (o : State A G) (taken : List (List G)) (cleared items : ℕ) → (rules.parts o.system) ≤ 64
      → HasTaken rules o taken cleared items → cleared ≤ 1 + 64 * 2 ^ 37
  cleared_small o taken cleared items few t =
      let s = sum_bound (rules.parts o.system) (λ j. length (log_of taken j)) (2 ^ 37) t.few in
      omega (arith, s, few, t.clears)

  -- a growth that can't be its sender's
  pub stray_same : (old new : State A G) (got : ℕ → List G) → new ≡ old → HasStray rules old.system old.me got
      → HasStray rules new.system new.me got
  stray_same old new got same h = subst (λ (o : State A G). HasStray rules o.system o.me got) (sym same) h

  -- ---- what was given out changes nothing of this

  module _ (old new : State A G) (others : new ≡ record old { given = new.given }) (taken : List (List
      G)) where
    pub taken_given : HasTakenAll rules old taken → HasTakenAll rules new taken
    taken_given h = subst (λ (o : State A G). HasTakenAll rules o taken) (sym others) h

    pub rests_given : (owed cleared : ℕ) (t t' : Tally) → IsSoundPart rules new → IsTallied rules new t'
        → (t'.turns ≡ t.turns) × (t'.cleared ≡ t.cleared) → IsAtRest rules old taken owed cleared t
        → IsAtRest rules new taken owed cleared t'
    rests_given owed cleared t t' sound counted same r = record {
      working = subst (λ (o : State A G). IsWorking rules o owed) (sym others) (record {
        sound = subst (IsSoundPart rules) others sound;
        whole = r.working.whole;
        loaded = r.working.loaded;
        done = r.working.done;
        owes = r.working.owes;
      });
      taking = subst (λ (o : State A G). HasTaken rules o taken cleared 0) (sym others) (record {
        count = r.taking.count;
        heard = r.taking.heard;
        few = r.taking.few;
        clears = r.taking.clears;
      });
      counted = counted;
      cleared_is = same.1 ∙ r.cleared_is;
      turns = omega (arith, same.0, r.turns);
    }

    pub comes_given : (owed cleared : ℕ) (t t' : Tally) → IsSoundPart rules new → IsTallied rules new t'
        → (t'.turns ≡ t.turns) × (t'.cleared ≡ t.cleared) → (heard : Heard) → ComesTo rules old taken owed cleared t
        heard
        → ComesTo rules new taken owed cleared t' heard
    comes_given owed cleared t t' sound counted same Nothing came = rests_given owed cleared t t' sound counted same
        came
    comes_given owed cleared t t' sound counted same Growths came = rests_given owed cleared t t' sound counted same
        came
    comes_given owed cleared t t' sound counted same Stray came =
        (subst (λ (o : State A G). HasStray rules o.system o.me (log_of taken)) (sym others) came.0, taken_given came.1)
    comes_given owed cleared t t' sound counted same Memory came = taken_given came

  -- what is counted where the worker needn't end
  pub counted_still : (o : State A G) (taken : List (List G)) (owed cleared : ℕ) (t : Tally) (heard : Heard)
      → WorkerGoesOn heard → ComesTo rules o taken owed cleared t heard → IsTallied rules o t
  counted_still o taken owed cleared t Nothing goes came = came.counted
  counted_still o taken owed cleared t Growths goes came = came.counted
  counted_still o taken owed cleared t Stray goes came = absurd goes
  counted_still o taken owed cleared t Memory goes came = absurd goes

  pub rests_open : (o : State A G) (taken : List (List G)) (owed cleared owed' cleared' : ℕ)
      (t : Tally) → owed' ≡ owed
      → cleared' ≡ cleared → IsAtRest rules o taken owed cleared t → IsAtRest rules o taken owed' cleared' t
  rests_open o taken owed cleared owed' cleared' t a b r =
      subst (λ (y : ℕ × ℕ). IsAtRest rules o taken y.0 y.1 t) (λ i. (sym a i, sym b i)) r

  -- ---- the first turn

  module _ (a : A) (i : ℕ) (old new : State A G) (first : old ≡ first_state rules a i)
      (others : new ≡ record old { log = new.log; loaded = new.loaded; broken = new.broken }) where
    begun : new ≡ record (first_state rules a i)
        { log = new.log; loaded = new.loaded; broken = new.broken }
    begun = others ∙ ap (λ (o : State A G). record o
        { log = new.log; loaded = new.loaded; broken = new.broken }) first

    pub first_grows : IsPrefix old.log new.log → HasGrown old new
    first_grows b = grind arith

    -- it received nothing
    pub none_taken : (taken : List (List G)) → HasTakenAll rules new taken
    none_taken taken j g l h = grind (arith, begun, read_replicate)

    pub first_takes : (taken : List (List G)) (cleared : ℕ) → AreAllEmpty (rules.parts a) taken → cleared ≡ 1
        → HasTaken rules new taken cleared 0
    first_takes taken cleared none is = grind (arith, begun, read_replicate, sum_empty)

  -- nothing is due of an owner that has done nothing yet
  pub first_due : (a : A) (i : ℕ) (o : State A G) → o ≡ first_state rules a i → due_of rules o ≡ 0
  first_due a i o first = ap (due_of rules) first ∙ sum_zero (rules.parts a)

  -- nothing is to be counted of an owner that has done nothing yet
  pub first_counted : (a : A) (i : ℕ) (o : State A G) → o ≡ first_state rules a i
      → IsTallied rules o (record { grown = 0; waiting = 0; turns = 0; cleared = 0 })
  first_counted a i o first = grind (arith, sum_same, read_replicate, sum_zero, first_due)
