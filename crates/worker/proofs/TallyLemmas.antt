-- What the counts of a log add up to.
use Rattle.std.proofs.Common.{◌≡◌, ℕ, zero, suc, ◌+◌, ◌*◌, ◌^◌, ◌<◌, ◌≤◌, List, [], ◌∷◌, ◌++◌, length, length-append, append-nil, slice_index_or, refl, sym, ap, ◌∙◌, subst, arith}
use Rattle.std.proofs.lemmas.List.Elements.{filter-append}
use Rattle.fixpoint.specs.Logs.{part}
use Rattle.nll_sets.specs.Prefix.{IsPrefix}
use Rattle.fixpoint.specs.State.{State, IsSoundPart, part_for, given_to}
use Rattle.fixpoint.proofs.ListLemmas.{filter_le}
use Rattle.fixpoint.specs.Sums.{sum_to}
use Rattle.worker.specs.Tallies.{IsTallied, HasGrown, due_of, given_of}
use Rattle.worker.specs.declared.tally.Tally.{Tally}
use Rattle.fixpoint.proofs.SumLemmas.{sum_same, sum_le, sum_exact}
use Rattle.fixpoint.specs.Rules.{Rules}

pub sum_next : (n : ℕ) (f : ℕ → ℕ) → sum_to (n + 1) f ≡ sum_to n f + f n
sum_next n f = let e : n + 1 ≡ suc n = omega arith in ap (λ k. sum_to k f) e

pub sum_bound : (n : ℕ) (f : ℕ → ℕ) (b : ℕ) → ((k : ℕ) → k < n → f k ≤ b) → sum_to n f ≤ n * b
sum_bound zero f b h = omega arith
sum_bound (suc n) f b h = let r = sum_bound n f b (λ k l. h k (omega (arith, l))) in let e = h n (omega arith) in
    omega (arith, r, e)

module _ {A F G : Type 0} (rules : Rules A F G) where
  -- a part rules has fewer than 2 ^ 37 growths
  pub part_few : (o : State A G) (j : ℕ) → IsSoundPart rules o → length (part_for rules o j) < 2 ^ 37
  part_few o j sound = grind (arith, filter_le)

  -- what was counted of each part is what isn't given of all
  pub all_counted : (o : State A G) (n w : ℕ) → n ≡ rules.parts o.system
      → sum_to n (λ j. given_to o j) + w ≡ sum_to n (λ j. length (part_for rules o j))
      → given_of rules o + w ≡ due_of rules o
  all_counted o n w all count =
      subst (λ k. sum_to k (λ j. given_to o j) + w ≡ sum_to k (λ j. length (part_for rules o j))) all count

  -- all parts together have fewer than 2 ^ 43
  pub due_small : (o : State A G) → IsSoundPart rules o → (rules.parts o.system) ≤ 64 → due_of rules o < 2 ^ 43
  due_small o sound few =
      let all =
      sum_bound (rules.parts o.system) (λ j. length (part_for rules o j)) 137438953471
      (λ j l. let h = part_few o j sound in omega (arith, h)) in
      omega (arith, all, few)

  pub grown_self : (o new : State A G) → new ≡ o → HasGrown o new
  grown_self o new same = grind (arith, append-nil)

  pub grown_on : (a b c : State A G) → HasGrown a b → HasGrown b c → HasGrown a c
  grown_on a b c f s = record {
    system = s.system ∙ f.system;
    me = s.me ∙ f.me;
    begins = (
      f.begins.0 ++ s.begins.0,
      s.begins.1
          ∙ (ap (λ xs. xs ++ s.begins.0) f.begins.1 ∙ join a.log f.begins.0 s.begins.0),
    );
    given = s.given ∙ f.given;
  }
    where
      join : {X : Type 0} (xs ys zs : List X) → (xs ++ ys) ++ zs ≡ xs ++ (ys ++ zs)
      join [] ys zs = refl
      join (x ∷ xs) ys zs = ap (λ l. x ∷ l) (join xs ys zs)

  module _ (old new : State A G) (h : HasGrown old new) where
    owners_same : (rules.parts new.system) ≡ (rules.parts old.system)
    owners_same = ap (λ (k : A). rules.parts k) h.system

    pub part_grows : (j : ℕ) → IsPrefix (part_for rules old j) (part_for rules new j)
    part_grows j = (
      part rules old.system j h.begins.0,
      ap (λ (k : A). part rules k j new.log) h.system
          ∙ (ap (λ xs. part rules old.system j xs) h.begins.1
          ∙ filter-append (λ (g : G). rules.reads old.system j (rules.fact g)) old.log h.begins.0),
    )

    pub given_same : (j : ℕ) → given_to new j ≡ given_to old j
    given_same j = ap (λ xs. slice_index_or xs j 0) h.given

    pub given_of_same : given_of rules new ≡ given_of rules old
    given_of_same = sum_same (rules.parts new.system) (λ j. given_to new j) (λ j. given_to old j) (λ j l. given_same j)
        ∙ ap (λ n. sum_to n (λ j. given_to old j)) owners_same

    pub due_grows : due_of rules old ≤ due_of rules new
    due_grows =
        let more =
        sum_le (rules.parts old.system) (λ j. length (part_for rules old j)) (λ j. length (part_for rules new j))
        (λ j l. let e = ap length (part_grows j).1 in
        omega (arith, e, length-append (part_for rules old j) (part_grows j).0)) in
        let same = ap (λ n. sum_to n (λ j. length (part_for rules new j))) owners_same in
        omega (arith, more, same)

    log_same : length new.log ≡ length old.log → new.log ≡ old.log
    log_same e =
        h.begins.1 ∙ (ap (λ xs. old.log ++ xs)
        (none h.begins.0 (omega (arith, e, ap length h.begins.1, length-append old.log h.begins.0))) ∙ append-nil
        old.log)
      where
        none : (xs : List G) → length xs ≡ 0 → xs ≡ []
        none [] z = refl
        none (x ∷ xs) z = absurd (omega (arith, z))

    part_same : length new.log ≡ length old.log → (j : ℕ) → part_for rules new j ≡ part_for rules old j
    part_same e j = ap (λ (k : A). part rules k j new.log) h.system ∙ ap (λ xs. part rules old.system j xs) (log_same e)

    pub due_same : length new.log ≡ length old.log → due_of rules new ≡ due_of rules old
    due_same e = grind (arith, sum_same, part_same, owners_same)

    module _ (t : Tally) (was : IsTallied rules old t) where
      pub counted_same : t.grown ≡ length new.log → IsTallied rules new t
      counted_same is = grind (arith, due_same, given_of_same)

      pub due_none : t.grown ≡ length new.log → due_of rules old + 0 ≡ due_of rules new
      due_none is = let d = due_same (sym is ∙ was.grown) in omega (arith, d)

      -- what was counted then is no more than what waits now
      pub waiting_grows : (w : ℕ) → given_of rules new + w ≡ due_of rules new → t.waiting ≤ w
      waiting_grows w e = let was_is = was.waiting in omega (arith, e, was_is, given_of_same, due_grows)

      pub due_more : (w n : ℕ) → given_of rules new + w ≡ due_of rules new → n + t.waiting ≡ w → due_of rules old +
          n ≡ due_of rules new
      due_more w n e d = let was_is = was.waiting in omega (arith, e, d, was_is, given_of_same)

  -- where nothing waits, all was given out
  pub all_given : (o : State A G) (t : Tally) → IsSoundPart rules o → IsTallied rules o t → t.waiting ≡ 0 →
      (j : ℕ) → j < (rules.parts o.system)
      → given_to o j ≡ length (part_for rules o j)
  all_given o t sound is none =
      sum_exact (rules.parts o.system) (λ j. given_to o j) (λ j. length (part_for rules o j)) (λ j l. sound.given j)
      (let w = is.waiting in omega (arith, none, w))
