-- What was posted, after a step.
use Rattle.std.proofs.Common.{◌≡◌, ◌≢◌, ℕ, zero, suc, ◌+◌, ◌<◌, ◌≤◌, false, List, [], ◌∷◌, ◌++◌, length, take, drop, min, slice_get, slice_set, slice_index_or, replicate, refl, sym, ap, ◌∙◌, subst, ⊎_elim, arith}
use Rattle.std.specs.Prelude.{Bool, true, Option, Some, None, IfSome, IfNone}
use Rattle.std.proofs.lemmas.Bool.{cases_eq}
use Rattle.std.proofs.lemmas.Option.{slice_get_within}
use Rattle.std.proofs.lemmas.List.{get_or-set_same, get_or-set_other, take-append-drop}
use Rattle.fixpoint.specs.Logs.{log_of}
use Rattle.nll_sets.specs.Prefix.{IsPrefix}
use Rattle.fixpoint.specs.State.{State, IsSoundPart, part_for, given_to, first_state}
use Rattle.worker.proofs.PostingLemmas.{Posting, filter_none}
use Rattle.fixpoint.proofs.ListLemmas.{take_all}
use Rattle.worker.specs.Mailboxes.{AreAllEmpty}
use Rattle.worker.specs.Tallies.{IsTallied, HasGrown}
use Rattle.worker.specs.Turning.{HasPosted, HasGivenMore}
use Rattle.worker.specs.declared.tally.Tally.{Tally}
use Rattle.worker.proofs.ListLemmas.{set_length}
use Rattle.worker.proofs.TallyLemmas.{part_grows, given_same, all_given}
use Rattle.fixpoint.specs.Rules.{Rules, AreLawful}

pub other_read : {X : Type 0} (xs : List X) (n j : ℕ) (x d : X) → j ≢ n
    → slice_index_or (slice_set xs n x) j d ≡ slice_index_or xs j d
other_read xs n j x d differs = get_or-set_other xs n j x d differs

pub read_replicate : {X : Type 0} (n j : ℕ) (x : X) → slice_index_or (replicate n x) j x ≡ x
read_replicate zero j x = refl
read_replicate (suc n) zero x = refl
read_replicate (suc n) (suc j) x = read_replicate n j x

take_none : {X : Type 0} (ys : List X) → take 0 ys ≡ []
take_none [] = refl
take_none (y ∷ ys) = refl

-- a beginning of a list begins a longer one
take_within : {X : Type 0} (n : ℕ) (xs ys : List X) → n ≤ length xs → take n (xs ++ ys) ≡ take n xs
take_within zero xs ys l = take_none (xs ++ ys) ∙ sym (take_none xs)
take_within (suc n) [] ys l = absurd (omega (arith, l))
take_within (suc n) (x ∷ xs) ys l = ap (λ zs. x ∷ zs) (take_within n xs ys (omega (arith, l)))

module _ {A F G : Type 0} (rules : Rules A F G) where
  -- the growth that comes next is the one that is given out
  pub gives_next : (old new : State A G) (to : ℕ) (r : Option G)
      (g : G) → old.broken ≡ false → to < (rules.parts old.system)
      → slice_get (part_for rules old to) (given_to old to) ≡ Some g
      → IfSome r (λ growth. (old.broken ≡ false) × (slice_get (part_for rules old to) (given_to old to) ≡ Some growth)
      × (new ≡ record old { given = slice_set old.given to (given_to old to + 1) }))
      → IfNone r ((new ≡ old) × (old.broken ≡ false → to < (rules.parts old.system) → given_to old to ≡ length
      (part_for rules old to)))
      → new ≡ record old { given = slice_set old.given to (given_to old to + 1) }
  gives_next old new to (Some x) g whole to_in next some none = some.2
  gives_next old new to None g whole to_in next some none = grind (arith, slice_get_within)

  module _ (old next : State A G) (before after : List (List G)) (to : ℕ) (p : HasPosted rules old before)
      (others : next ≡ record old { given = next.given })
      (other_given : (j : ℕ) → j ≢ to → given_to next j ≡ given_to old j)
      (sent : log_of after to ≡ take (given_to next to) (part_for rules old to))
      (rest : after ≡ slice_set before to (log_of after to)) where
    part_was : (j : ℕ) → part_for rules next j ≡ part_for rules old j
    part_was j = ap (λ (o : State A G). part_for rules o j) others

    pub posted_on : HasPosted rules next after
    posted_on = record {
      count = ap length rest ∙ (set_length before to (log_of after to)
          ∙ (p.count ∙ sym (ap (λ (o : State A G). rules.parts o.system) others)));
      front = grind (arith, ⊎_elim, part_was, other_read, cases_eq);
    }

  pub posts_grown : (old new : State A G) (posts : List (List G)) → HasGrown old new → IsSoundPart rules old →
      HasPosted rules old posts
      → HasPosted rules new posts
  posts_grown old new posts h sound p = record {
    count = p.count ∙ sym (ap (λ (k : A). rules.parts k) h.system);
    front = λ j l.
        let b = part_grows rules old new h j in
        p.front j (subst (λ (k : A). j < rules.parts k) h.system l)
        ∙ (sym (take_within (given_to old j) (part_for rules old j) b.0 (sound.given j))
        ∙ (ap (take (given_to old j)) (sym b.1) ∙ ap (λ n. take n (part_for rules new j)) (sym
        (given_same rules old new h j))));
  }

  -- an owner that has done nothing but grow has given out nothing, and nothing was posted
  pub posts_first : (a : A) (i : ℕ) (old new : State A G) (posts : List (List G))
      → old ≡ first_state rules a i → HasGrown old new → AreAllEmpty (rules.parts a) posts → HasPosted rules new posts
  posts_first a i old new posts first h none = grind (arith, given_same, read_replicate, take_none)

  -- the front of each part rules was posted
  pub posts_front : (o : State A G) (posts : List (List G)) → HasPosted rules o posts → (j : ℕ) → j <
      (rules.parts o.system)
      → IsPrefix (log_of posts j) (part_for rules o j)
  posts_front o posts p j l =
      subst (λ xs. IsPrefix xs (part_for rules o j)) (sym (p.front j l))
      (drop (given_to o j) (part_for rules o j), sym (take-append-drop (given_to o j) (part_for rules o j)))

  -- where nothing waits, all was posted
  pub posts_all : (o : State A G) (posts : List (List G)) (t : Tally) → IsSoundPart rules o → HasPosted rules o
      posts → IsTallied rules o t
      → t.waiting ≡ 0 → (j : ℕ) → j < (rules.parts o.system) → log_of posts j ≡ part_for rules o j
  posts_all o posts t sound p is none j l = p.front j l
      ∙ (ap (λ n. take n (part_for rules o j)) (all_given rules o t sound is none j l) ∙ take_all (part_for rules o j))

  -- ---- how much was given out of a part rules

  pub one_more : (first now next : State A G) (to : ℕ) (sent : List G) → Posting rules first now to sent
      → to < (rules.parts first.system) → next ≡ record now { given = slice_set now.given to (given_to now to + 1) }
      → given_to next to ≡ given_to now to + 1
  one_more first now next to sent p to_in gives = grind (arith, get_or-set_same)

  -- as much as may be at once
  pub given_most : (old now : State A G) (to posted most : ℕ) (g : G) → now ≡ record old { given = now.given }
      → given_to now to ≡ given_to old to + posted → posted ≤ most → most ≤ posted
      → slice_get (part_for rules now to) (given_to now to) ≡ Some g
      → given_to now to ≡ min (given_to old to + most) (length (part_for rules old to))
  given_most old now to posted most g others count few many next = grind (arith, slice_get_within)

  -- all that was left
  pub given_rest : (old now : State A G) (to posted most : ℕ) → now ≡ record old { given = now.given }
      → given_to now to ≡ given_to old to + posted → posted ≤ most → given_to now to ≡ length (part_for rules now to)
      → given_to now to ≡ min (given_to old to + most) (length (part_for rules old to))
  given_rest old now to posted most others count few all =
      let same = ap (λ (o : State A G). length (part_for rules o to)) others in omega (arith, count, few, same, all)

  -- of one part rules more
  module _ (first old next : State A G) (to most : ℕ) (others : old ≡ record first { given = old.given })
      (other_given : (j : ℕ) → j ≢ to → given_to next j ≡ given_to old j)
      (rest : (j : ℕ) → to ≤ j → given_to old j ≡ given_to first j) where
    pub given_behind : (j : ℕ) → to + 1 ≤ j → given_to next j ≡ given_to first j
    given_behind j l = other_given j (differs j to l) ∙ rest j (omega (arith, l))
      where
        differs : (j to : ℕ) → to + 1 ≤ j → j ≢ to
        differs j to l = grind arith

    -- of a part rules, as much more than this owner gave out as may be at once
    abbrev GivenSo : State A G → ℕ → Type 0
    GivenSo o k = given_to next k ≡ min (given_to o k + most) (length (part_for rules o k))

    pub given_more : HasGivenMore rules most to first old → GivenSo old to → HasGivenMore rules most (to + 1) first next
    given_more was given j l = ⊎_elim
        (λ (here : j ≡ to). subst (GivenSo first) (sym here) last)
        (λ (other : j ≢ to). other_given j other ∙ was j (below j to l other))
        (cases_eq j to)
      where
        last : GivenSo first to
        last = grind arith

        below : (j to : ℕ) → j < to + 1 → j ≢ to → j < to
        below j to l other = grind arith

  -- nothing of its log is for the owner itself
  part_own : AreLawful rules → (o : State A G) → IsSoundPart rules o → part_for rules o o.me ≡ []
  part_own lawful o sound =
      filter_none (λ (g : G). rules.reads o.system o.me (rules.fact g)) o.log
      (λ g h. unread (rules.fact g) (rules.reads o.system o.me (rules.fact g)) refl (sound.well_formed.own g h))
    where
      unread : (f : F) (b : Bool) → rules.reads o.system o.me f ≡ b → rules.owner o.system f ≡ o.me → b ≡ false
      unread f false e is = refl
      unread f true e is = absurd ((lawful.others o.system sound.valid o.me f e).1 is)

  pub given_own : AreLawful rules → (o : State A G) (to most : ℕ) → IsSoundPart rules o → to ≡ o.me
      → given_to o to ≡ min (given_to o to + most) (length (part_for rules o to))
  given_own lawful o to most sound own = grind (arith, part_own)

  -- where nothing waits, nothing more is to be given out
  pub none_more : (o : State A G) (t : Tally) (most : ℕ) → IsSoundPart rules o → IsTallied rules o t → t.waiting ≡ 0
      → HasGivenMore rules most (rules.parts o.system) o o
  none_more o t most sound is none j l = let all = all_given rules o t sound is none j l in omega (arith, all)
