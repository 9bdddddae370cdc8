-- What the settled mailboxes, the gathered ledger and the logs say together.
use Rattle.std.proofs.Common.{length-append, ◌≡◌, ◌≢◌, ◌+◌, ◌<◌, ◌≤◌, ℕ, zero, suc, true, false, List, [], ◌∷◌, ◌++◌, length, map, drop, slice_index_or, slice_get, Option, Some, Contains, AllPairs, refl, ap, sym, ◌∙◌, subst, inl, inr, ◌⊎◌, ⊎_elim, arith}
use Rattle.std.specs.List.{sum_by}
use Rattle.std.proofs.lemmas.Bool.{cases_lt}
use Rattle.std.proofs.lemmas.List.Sums.{sum_by-cons}
use Rattle.nll_sets.specs.Prefix.{IsPrefix}
use Rattle.fixpoint.specs.Rules.{AreLawful, Rules}
use Rattle.fixpoint.specs.Logs.{AreSound, SayLeast, log_of, part}
use Rattle.fixpoint.specs.State.{State, first_state}
use Rattle.worker.specs.Mailboxes.{through}
use Rattle.fixpoint.specs.Sums.{sum_to}
use Rattle.fixpoint.specs.Finishing.{AreRanked, Finishes}
use Rattle.mail.specs.declared.mail.Mail as Mail
use Rattle.ledger.specs.declared.ledger.Ledger as Ledger
use Rattle.run.specs.Delivery.{IsPair, IsPairBefore}
use Rattle.run.specs.Outcome.{AreYields, IsOutcome}
use Rattle.worker.specs.Finishing.{Leaves, WasMade, FinishedAs, IsError}
use Rattle.fixpoint.specs.declared.ending.Ending.{Ending}
use Rattle.fixpoint.specs.declared.ending.Ending.TheVariants.{Quiet, Stopped, Stray}
use Rattle.fixpoint.specs.declared.ending.Ending.TheVariants as endings
use Rattle.fixpoint.proofs.RunLemmas.{are_ranked, concludes, not_stray}
use Rattle.run.specs.Settling.{ArePostsOf, InRows, sent_at, got_by}
use Rattle.run.specs.Refusing.{IsCalm}
use Rattle.run.proofs.PlaceLemmas.{place, within, map_place, map_from, map_size, mapped, contains_place, contained, same_place}

-- the rest of a list behind one that begins it
prefix_rest : {X : Type 0} (front whole : List X) → IsPrefix front whole → whole ≡ front ++ drop (length front) whole
prefix_rest [] whole p = sym (drop_none whole)
  where
    drop_none : {X : Type 0} (xs : List X) → drop 0 xs ≡ xs
    drop_none [] = refl
    drop_none (x ∷ xs) = refl
prefix_rest (x ∷ xs) [] p = absurd (cc p.1)
prefix_rest (x ∷ xs) (y ∷ ys) p =
    let parts : (y ≡ x) × (ys ≡ xs ++ p.0) = (cc p.1, cc p.1) in
    let r = prefix_rest xs ys (p.0, parts.1) in
    (λ i. parts.0 i ∷ r i)

-- nothing is left behind a whole
no_rest : {X : Type 0} (whole front rest : List X) → whole ≡ front ++ rest → front ≡ whole → rest ≡ []
no_rest whole front [] e same = refl
no_rest whole front (x ∷ xs) e same =
    absurd (let m = ap length e in let n = ap length same in omega (arith, length-append front (x ∷ xs), m, n))

sum_places : {X : Type 0} (f : X → ℕ) (xs : List X)
    → sum_by f xs ≡ sum_to (length xs) (λ k. slice_index_or (map f xs) k 0)
sum_places f xs = from_front f xs ∙ same (length xs) f xs
  where
    total : (ℕ → ℕ) → ℕ → ℕ
    total g zero = 0
    total g (suc n) = g 0 + total (λ k. g (suc k)) n

    total_last : (g : ℕ → ℕ) (n : ℕ) → total g (suc n) ≡ total g n + g n
    total_last g zero = omega arith
    total_last g (suc n) = let r = total_last (λ k. g (suc k)) n in omega (arith, r)

    total_sum : (g : ℕ → ℕ) (n : ℕ) → total g n ≡ sum_to n g
    total_sum g zero = refl
    total_sum g (suc n) = let r = total_sum g n in let l = total_last g n in omega (arith, r, l)

    from_front : {X : Type 0} (f : X → ℕ) (xs : List X)
        → sum_by f xs ≡ total (λ k. slice_index_or (map f xs) k 0) (length xs)
    from_front f [] = refl
    from_front f (x ∷ xs) = sum_by-cons f x xs ∙ ap (λ n. f x + n) (from_front f xs)

    same : {X : Type 0} (n : ℕ) (f : X → ℕ) (xs : List X)
        → total (λ k. slice_index_or (map f xs) k 0) n ≡ sum_to n (λ k. slice_index_or (map f xs) k 0)
    same n f xs = total_sum (λ k. slice_index_or (map f xs) k 0) n

no_error_cases : (w : Ending) → IsCalm w → (w ≡ Quiet) ⊎ ((w ≡ Stopped) ⊎ (w ≡ Stray))
no_error_cases endings.Quiet t = inl refl
no_error_cases endings.Stopped t = inr (inl refl)
no_error_cases endings.Stray t = inr (inr refl)
no_error_cases endings.Memory t = absurd t
no_error_cases endings.Forbidden t = absurd t
no_error_cases endings.Unstarted t = absurd t
no_error_cases endings.NoOwner t = absurd t

made : (w : Ending) → IsCalm w → WasMade w
made endings.Quiet t = tt
made endings.Stopped t = tt
made endings.Stray t = tt
made endings.Memory t = absurd t
made endings.Forbidden t = absurd t
made endings.Unstarted t = absurd t
made endings.NoOwner t = absurd t

-- no error that is an error is a growth that can't be its sender's
error_bad : (w : Ending) → IsCalm w → IsError w → w ≡ Stray
error_bad endings.Quiet t e = absurd e
error_bad endings.Stopped t e = absurd e
error_bad endings.Stray t e = refl
error_bad endings.Memory t e = absurd t
error_bad endings.Forbidden t e = absurd t
error_bad endings.Unstarted t e = absurd t
error_bad endings.NoOwner t e = absurd t

module _ {A F G Y D M S R C P L B H E : Type 0} (rules : Rules A F G) (yields : A → ℕ → List G → Y → Type 0)
    (lawful : AreLawful rules) (m : Mail.Ghosts M G S R C P) (b : Ledger.Ghosts L B H E) (book : B)
    (log : D → List G) (given : D → Y) (left : D → E) (closed : D → List (Option C))
    (kept : D → List (Option R))
    (why_of : D → Ending) (a : A) (ok : rules.valid a) (ds : List D) (count : length ds ≡ rules.parts a)
    (leaves : (k : ℕ) (d : D) → slice_get ds k ≡ Some d → Leaves b book k (left d) (why_of d))
    (finishes : (k : ℕ) (d : D) → slice_get ds k ≡ Some d → WasMade (why_of d)
    → FinishedAs rules yields a k (log_of (map (through m.all_sent) (closed d)))
    (log_of (map (through m.received) (kept d)))
    (b.left_owed (left d)) (b.left_cleared (left d)) (why_of d) (log d)
    (given d))
    (calm : (k : ℕ) (d : D) → slice_get ds k ≡ Some d → IsCalm (why_of d)) where
  abbrev sent : ℕ → ℕ → List G
  sent i j = sent_at m.all_sent (map closed ds) i j

  abbrev got : ℕ → ℕ → List G
  got i j = got_by m.received (map kept ds) i j

  abbrev logs : List (List G)
  logs = map log ds

  abbrev owed : ℕ → ℕ
  owed i = slice_index_or (map (λ d. b.left_owed (left d)) ds) i 0

  abbrev cleared : ℕ → ℕ
  cleared i = slice_index_or (map (λ d. b.left_cleared (left d)) ds) i 0

  abbrev ending : ℕ → Ending
  ending i = slice_index_or (map why_of ds) i Quiet

  done : (i : ℕ) → i < rules.parts a → (d : D) × (slice_get ds i ≡ Some d)
  done i l = place ds i (omega (arith, l, count))

  abbrev Ends : ℕ → State A G → Type 0
  Ends i o = (o.log ≡ log_of logs i) × Finishes rules a i o (sent i) (λ j. got j i) (owed i) (cleared i) (ending i)

  ends_at : (i : ℕ) → i < rules.parts a → (o : State A G) × Ends i o
  ends_at i l =
      let d = done i l in
      let f = finishes i d.0 d.1 (made (why_of d.0) (calm i d.0 d.1)) in (
        f.0,
        (
          f.1 ∙ sym (mapped log ds i d.0 [] d.1),
          subst (λ (x : List (Option C)). Finishes rules a i f.0 (λ j. log_of (map (through m.all_sent) x) j)
              (λ j. got j i) (owed i)
              (cleared i) (ending i)) (sym (mapped closed ds i d.0 [] d.1))
              (subst (λ (x : List (Option R)). Finishes rules a i f.0 (log_of (map (through m.all_sent) (closed d.0)))
              (λ j. log_of (map (through m.received) x) j) (owed i) (cleared i) (ending i))
              (sym (mapped kept ds i d.0 [] d.1))
              (subst (λ (x : ℕ). Finishes rules a i f.0 (log_of (map (through m.all_sent) (closed d.0)))
              (log_of (map (through m.received) (kept d.0))) x (cleared i) (ending i))
              (sym (mapped (λ (y : D). b.left_owed (left y)) ds i d.0 0 d.1))
              (subst (λ (x : ℕ). Finishes rules a i f.0 (log_of (map (through m.all_sent) (closed d.0)))
              (log_of (map (through m.received) (kept d.0))) (b.left_owed (left d.0)) x (ending i))
              (sym (mapped (λ (y : D). b.left_cleared (left y)) ds i d.0 0 d.1))
              (subst (λ (x : Ending). Finishes rules a i f.0 (log_of (map (through m.all_sent) (closed d.0)))
              (log_of (map (through m.received) (kept d.0))) (b.left_owed (left d.0)) (b.left_cleared (left d.0)) x)
              (sym (mapped why_of ds i d.0 Quiet d.1)) f.2)))),
        ),
      )

  chosen : (i : ℕ) → (i < rules.parts a) ⊎ (rules.parts a ≤ i) → (o : State A G) × (i < rules.parts a → Ends i o)
  chosen i (inl l) = ((ends_at i l).0, λ _. (ends_at i l).1)
  chosen i (inr l) = (first_state rules a i, λ m. absurd (omega (arith, l, m)))

  abbrev state : ℕ → State A G
  state i = (chosen i (cases_lt i (rules.parts a))).0

  ends : (i : ℕ) → i < rules.parts a
      → Finishes rules a i (state i) (sent i) (λ j. got j i) (owed i) (cleared i) (ending i)
  ends i l = ((chosen i (cases_lt i (rules.parts a))).1 l).1

  log_is : (i : ℕ) → i < rules.parts a → log_of logs i ≡ (state i).log
  log_is i l = sym ((chosen i (cases_lt i (rules.parts a))).1 l).0

  log_count : length logs ≡ rules.parts a
  log_count = map_size log ds ∙ count

  given_at : (i : ℕ) (y : Y) → i < rules.parts a → slice_get (map given ds) i ≡ Some y
      → yields a i (log_of logs i) y
  given_at i y l at =
      let d = done i l in
      let f = finishes i d.0 d.1 (made (why_of d.0) (calm i d.0 d.1)) in
      subst (λ (x : List G × Y). yields a i x.0 x.1)
      (λ j. (
        sym (mapped log ds i d.0 [] d.1) j,
        same_place (map given ds) i (given d.0) y (map_place given ds i d.0 d.1) at j,
      )) f.3

  -- what each part gave out says what its log tells
  pub are_yields : AreYields rules.parts yields a logs (map given ds)
  are_yields = record { counted = map_size given ds ∙ count; each = given_at }

  module _ (posts : List P)
      (settled : ArePostsOf m (sent_at m.all_sent (map closed ds)) (got_by m.received (map kept ds))
      (InRows (rules.parts a) (rules.parts a)) posts) where
    abbrev rest : ℕ → ℕ → List G
    rest i j = drop (length (got i j)) (sent i j)

    tied : (i j : ℕ) → i < rules.parts a → j < rules.parts a → sent i j ≡ got i j ++ rest i j
    tied i j li lj = prefix_rest (got i j) (sent i j) (settled.prefix i j (li, lj))

    never_stray : (i : ℕ) → i < rules.parts a → ending i ≢ Stray
    never_stray = not_stray rules lawful a ok state sent got rest owed cleared ending ends tied

    module _ (total_owed total_cleared : ℕ) (owed_is : total_owed ≡ sum_by b.left_owed (map left ds))
        (cleared_is : total_cleared ≡ sum_by b.left_cleared (map left ds))
        (quiets : ((k : ℕ) (l : E) → slice_get (map left ds) k ≡ Some l → b.left_quiet l ≡ true)
        → total_owed ≡ total_cleared)
        (stopped : (k : ℕ) (l : E) → slice_get (map left ds) k ≡ Some l → b.left_quiet l ≡ false
        → (j : ℕ) × (x : E) × (slice_get (map left ds) j ≡ Some x) × (b.left_called x ≡ true)) where
      why_at : (i : ℕ) (d : D) → slice_get ds i ≡ Some d → ending i ≡ why_of d
      why_at i d e = mapped why_of ds i d Quiet e

      not_bad_at : (i : ℕ) (d : D) → slice_get ds i ≡ Some d → why_of d ≢ Stray
      not_bad_at i d e is = never_stray i (let w = within ds i d e in omega (arith, w, count)) (why_at i d e ∙ is)

      quiet_at : (i : ℕ) (d : D) → slice_get ds i ≡ Some d → why_of d ≡ Quiet
      quiet_at i d e = ⊎_elim
          (λ (h : why_of d ≡ Quiet). h)
          (λ (t : (why_of d ≡ Stopped) ⊎ (why_of d ≡ Stray)). ⊎_elim
          (λ (h : why_of d ≡ Stopped).
          let off : b.left_quiet (left d) ≡ false = (leaves i d e).not_quiet (λ x. stopped_is_not_quiet (sym h ∙ x)) in
          let s = stopped i (left d) (map_place left ds i d e) off in
          let w = map_from left ds s.0 s.1 s.2 in
          let call = subst (λ (x : E). b.left_called x ≡ true) (sym w.2) s.3 in
          absurd (not_bad_at s.0 w.0 w.1 (error_bad (why_of w.0) (calm s.0 w.0 w.1)
          ((leaves s.0 w.0 w.1).called_is call))))
          (λ (h : why_of d ≡ Stray). absurd (not_bad_at i d e h)) t)
          (no_error_cases (why_of d) (calm i d e))
        where
          stopped_is_not_quiet : Stopped ≡ Quiet → ⊥
          stopped_is_not_quiet x = cc

      quiet : (i : ℕ) → i < rules.parts a → ending i ≡ Quiet
      quiet i l = let d = done i l in why_at i d.0 d.1 ∙ quiet_at i d.0 d.1

      all_quiet_left : (k : ℕ) (l : E) → slice_get (map left ds) k ≡ Some l → b.left_quiet l ≡ true
      all_quiet_left k l e = let w = map_from left ds k l e in
          subst (λ (x : E). b.left_quiet x ≡ true) w.2 ((leaves k w.0 w.1).quiet_is (quiet_at k w.0 w.1))

      sum_of : (f : E → ℕ) → sum_by f (map left ds)
          ≡ sum_to (rules.parts a) (λ i. slice_index_or (map (λ d. f (left d)) ds) i 0)
      sum_of f =
          sum_map f ds ∙ (sum_places (λ d. f (left d)) ds
          ∙ ap (λ n. sum_to n (λ i. slice_index_or (map (λ d. f (left d)) ds) i 0)) count)
        where
          sum_map : (f : E → ℕ) (xs : List D) → sum_by f (map left xs) ≡ sum_by (λ d. f (left d)) xs
          sum_map f [] = refl
          sum_map f (x ∷ xs) = sum_by-cons f (left x) (map left xs)
              ∙ (ap (λ n. f (left x) + n) (sum_map f xs) ∙ sym (sum_by-cons (λ d. f (left d)) x xs))

      sums : sum_to (rules.parts a) owed ≡ sum_to (rules.parts a) cleared
      sums = sym (sum_of b.left_owed) ∙ (sym owed_is ∙ (quiets all_quiet_left ∙ (cleared_is ∙ sum_of b.left_cleared)))

      law : ((i j : ℕ) → i < rules.parts a → j < rules.parts a
          → (sent i j ≡ part rules a j (log_of logs i)) × (got i j ≡ sent i j) × (rest i j ≡ []))
          × AreSound rules a logs (λ i j. part rules a i (log_of logs j))
          × SayLeast rules a logs
      law = concludes rules lawful a ok state sent got rest owed cleared ending ends tied logs log_count log_is quiet
          sums

      ranked : AreRanked rules a logs
      ranked = are_ranked rules lawful a ok state sent got rest owed cleared ending ends tied logs log_count log_is
          quiet sums

      -- what is said of one post
      said : (p : P) → Contains posts p
          → (m.post_sent p ≡ part rules a (m.post_ends p).1 (log_of logs (m.post_ends p).0))
          × (m.post_received p ≡ m.post_sent p) × (m.post_rest p ≡ [])
      said p h =
          let x = settled.only p h in
          let i = x.0 in let j = x.1 in let s = x.3 in
          let l = law.0 i j x.2.0 x.2.1 in
          let received_all : m.post_received p ≡ m.post_sent p = s.received_is ∙ (l.1 ∙ sym s.sent_is) in (
            s.sent_is ∙ (l.0 ∙ ap (λ (e : ℕ × ℕ). part rules a e.1 (log_of logs e.0)) (sym s.ends_are)),
            received_all,
            no_rest (m.post_sent p) (m.post_received p) (m.post_rest p) s.whole received_all,
          )

      pub says_least : AllPairs IsPairBefore (map m.post_ends posts)
          → IsOutcome rules yields m a logs (map given ds) posts
      says_least in_order = record {
        delivered = record {
          pairs = λ x. (
            (λ h.
                let k = contains_place (map m.post_ends posts) x h in
                let w = map_from m.post_ends posts k.0 x k.1 in
                let y = settled.only w.0 (contained posts k.0 w.0 w.1) in
                subst (λ (z : ℕ × ℕ). IsPair (rules.parts a) z) (sym y.3.ends_are ∙ w.2) (y.2.0, y.2.1, y.3.apart)),
            (λ h.
                let y = settled.each x.0 x.1 (h.0, h.1) h.2 in
                let k = contains_place posts y.0 y.1 in
                subst (λ (z : ℕ × ℕ). Contains (map m.post_ends posts) z) y.2
                (contained (map m.post_ends posts) k.0 (m.post_ends y.0)
                (map_place m.post_ends posts k.0 y.0 k.1))),
          );
          whole_part = λ p h. (said p h).0;
          all_of_it = λ p h. (said p h).1;
        };
        in_order = in_order;
        none_left = λ p h. (said p h).2;
        sound = law.1;
        ranked = ranked;
        logged = law.2;
        yielded = are_yields;
      }
