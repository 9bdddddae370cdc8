-- An own region grows.
use Rattle.std.proofs.Common.{◌≡◌, ℕ, zero, suc, ◌+◌, ◌-◌, ◌<◌, ◌≤◌, Bool, List, [], ◌∷◌, ◌++◌, length, Contains, get_or, refl, sym, ap, ◌∙◌, subst, inl, inr, ◌⊎◌, ⊎_elim, arith, append-nil, append_assoc, length-append}
use Rattle.std.proofs.lemmas.Bool.{cases_eq}
use Rattle.std.proofs.lemmas.List.{get_or_default}
use Rattle.std.proofs.lemmas.List.Elements.{Contains-append_cases, Contains-append_left, Contains-append_right, Contains-push, Contains-push_cases, filter-append}
use Rattle.std.proofs.lemmas.List.FromFn.{length-map-range_with_len, get_or-map-range_with_len, map-range_with_len_more}
use Rattle.std.proofs.lemmas.List.Quantifiers.{all_pairs_push}
use Rattle.nll_sets.specs.Runs.{IsWithin}
use Rattle.nll_sets.specs.declared.run.Run.{Run}
use Rattle.nll_problem.specs.Graph.{element_count}
use Rattle.nll_problem.specs.Problem.{IsBase}
use Rattle.nll_problem.specs.Solution.{IsAskedIn}
use Rattle.nll_core.specs.Growing.{missing_pairs, Gains}
use Rattle.nll_core.specs.Values.{IsHeld}
use Rattle.nll_problem.specs.declared.constraint.Constraint.{Constraint}
use Rattle.nll_problem.proofs.AskLemmas.{asked_weaker}
use Rattle.nll_cut.specs.Partition.{owner_of}
use Rattle.nll_mail.specs.declared.growth.Growth.{Growth}
use Rattle.nll_owner.specs.Logs.{IsWellFormedLog, part, IsToldBefore, IsWellSupported}
use Rattle.nll_owner.specs.Owner.{Owner, IsNoted, received_from, list_in, Has, IsCalled, part_for, pair_count, IsSoundOwner}
use Rattle.nll_owner.specs.Keeping.{AreValuesKept, OwnerGrows, IsSlot, growth_at, growths}
use Rattle.nll_owner.proofs.LogLemmas.{list_own, list_other}
use Rattle.nll_owner.proofs.SlotLemmas.{slot_same, slots_apart, slotted_gains}
use Rattle.nll_owner.proofs.OwnerLemmas.{IsIn, called_grows, has_grows, known_in, list_longer, supported_in}

-- ---- an own region grows by an element

module _ (o : Owner) (sound : IsSoundOwner o) (region element : ℕ) (own : owner_of o.cut region ≡ o.me)
    (in_elements : element < element_count o.problem.graph)
    (lacks : Has o region element → ⊥) (asked : IsCalled o region element)
    (room : length o.log < pair_count o.problem) where
  abbrev growth : Growth
  growth = record { region = region; element = element; rank = o.clock + 1 }

  abbrev grown : Owner
  grown = record o { log = o.log ++ growth ∷ []; clock = o.clock + 1 }

  longer : (b : ℕ) → IsIn (list_in o b) (list_in grown b)
  longer b = list_longer o.cut o.me o.log (growth ∷ []) (received_from o) b

  -- all that the owner has knows below the next rank
  told : (b e : ℕ) → Has o b e → IsToldBefore growth.rank (list_in grown b) b e
  told b e h = (h.0, longer b h.0 h.1, h.2, h.3, low)
    where
      low : h.0.rank < o.clock + 1
      low = ⊎_elim
          (λ same. let l = sound.own_ranks h.0
          (subst (λ xs. Contains xs h.0) (list_own o.cut o.me o.log (received_from o) b same) h.1) in omega arith)
          (λ other. let l = sound.heard_ranks (owner_of o.cut b) h.0
          (subst (λ xs. Contains xs h.0) (list_other o.cut o.me o.log (received_from o) b other) h.1) in
          omega arith)
          (cases_eq (owner_of o.cut b) o.me)

  grown_well_formed : IsWellFormedLog o.cut o.me (o.log ++ growth ∷ [])
  grown_well_formed = record {
    own = λ g h. ⊎_elim (λ old. sound.well_formed.own g old)
        (λ is. subst (λ (g : Growth). owner_of o.cut g.region ≡ o.me) is own) (Contains-push_cases o.log growth g h);
    once = all_pairs_push (λ (g h : Growth). ((g.region ≡ h.region) × (g.element ≡ h.element)) → ⊥) o.log growth
        sound.well_formed.once (λ k d l same.
        let g = get_or o.log k d in
        lacks (
          g,
          subst (λ xs. Contains xs g) (sym (list_own o.cut o.me o.log (received_from o) region own))
              (k, l, get_or_default o.log k g d l),
          same.0,
          same.1,
        ));
    rising = all_pairs_push (λ (g h : Growth). g.rank < h.rank) o.log growth sound.well_formed.rising (λ k d l.
        let r = sound.own_ranks (get_or o.log k d) (k, l, get_or_default o.log k (get_or o.log k d) d l) in
        omega arith);
    from_one = λ g h. ⊎_elim (λ old. sound.well_formed.from_one g old)
        (λ is. subst (λ (g : Growth). 1 ≤ g.rank) is (omega arith)) (Contains-push_cases o.log growth g h);
  }

  grown_supported : IsWellSupported o.problem (list_in grown) (o.log ++ growth ∷ [])
  grown_supported g h = ⊎_elim
      (λ old. supported_in o.problem (list_in o) (list_in grown) longer o.log sound.supported g old)
      (λ is. subst (λ (g : Growth). IsBase o.problem g.region g.element
      ⊎ ((k : Constraint) × Contains o.problem.constraints k × (k.sup ≡ g.region)
      × IsAskedIn o.problem.graph (IsToldBefore g.rank (list_in grown k.sub) k.sub) k.at g.element)) is
      (⊎_elim inl
      (λ (w : (k : Constraint) × Contains o.problem.constraints k × (k.sup ≡ region)
      × IsAskedIn o.problem.graph (Has o k.sub) k.at element).
      inr (w.0, w.1, w.2, asked_weaker o.problem.graph _ w.0.at _ (λ e t. told w.0.sub e t) element w.3))
      asked))
      (Contains-push_cases o.log growth g h)

  part_longer : (j : ℕ) → part_for grown j ≡ part_for o j ++ part o.problem o.cut j (growth ∷ [])
  part_longer j = filter-append _ o.log (growth ∷ [])

  known_still : (h : Growth) → IsNoted o h → IsNoted grown h
  known_still h k =
      ⊎_elim (λ (a : Contains o.log h). inl (Contains-append_left o.log (growth ∷ []) h a))
      (λ (b : (j : ℕ) × Contains (received_from o j) h). inr b) k

  grown_sound : IsSoundOwner grown
  grown_sound = record {
    problem = sound.problem;
    cut = sound.cut;
    me = sound.me;
    well_formed = grown_well_formed;
    supported = grown_supported;
    based = λ loaded r e own base. known_in _ _ (longer r) r e (sound.based loaded r e own base);
    elements =
        λ g h. ⊎_elim (λ old. sound.elements g old)
        (λ is. subst (λ (g : Growth). g.element < element_count o.problem.graph) is in_elements)
        (Contains-push_cases o.log growth g h);
    few = omega (arith, length-append o.log (growth ∷ []), room);
    senders = sound.senders;
    heard = sound.heard;
    own_ranks =
        λ g h. ⊎_elim (λ old. (let l = sound.own_ranks g old in omega arith))
        (λ is. subst (λ (g : Growth). g.rank ≤ o.clock + 1) is (omega arith)) (Contains-push_cases o.log growth g h);
    heard_ranks = λ j g h. (let l = sound.heard_ranks j g h in omega arith);
    early = sound.early;
    paced = λ n all. (let l = sound.paced n all in omega (arith, l, length-append o.log (growth ∷ [])));
    top = inr (growth, inl (Contains-push o.log growth), refl);
    steps = λ g h more. ⊎_elim
        (λ old. let x = sound.steps g old more in (x.0, known_still x.0 x.1, x.2))
        (λ is. ⊎_elim
        (λ (none : o.clock ≡ 0). absurd (let r = ap (λ (x : Growth). x.rank) is in omega (arith, r)))
        (λ (t : (h : Growth) × IsNoted o h × (h.rank ≡ o.clock)).
        (t.0, known_still t.0 t.1, (let r = ap (λ (x : Growth). x.rank) is in let e = t.2 in omega (arith, r, e))))
        sound.top)
        (Contains-push_cases o.log growth g h);
    receivers = sound.receivers;
    given = λ j. omega (
      arith,
      sound.given j,
      ap length (part_longer j),
      length-append (part_for o j) (part o.problem o.cut j (growth ∷ [])),
    );
  }

-- ---- an own region grows by elements that follow each other by number

-- the owner with another log and clock
abbrev late : Owner → List Growth → ℕ → Owner
late o log clock = record o { log = log; clock = clock }

module _ (o : Owner) (sound : IsSoundOwner o) (region first count : ℕ) (own : owner_of o.cut region ≡ o.me)
    (in_elements : (k : ℕ) → k < count → first + k < element_count o.problem.graph)
    (lacks : (k : ℕ) → k < count → Has o region (first + k) → ⊥)
    (asked : (k : ℕ) → k < count → IsCalled o region (first + k))
    (room : length o.log + count ≤ pair_count o.problem) where
  -- the growths by so many of the elements
  abbrev grown_by : ℕ → List Growth
  grown_by n = growths region first o.clock n

  -- and the owner with them
  abbrev after : ℕ → Owner
  after n = late o (o.log ++ grown_by n) (o.clock + n)

  -- a growth of them is of the region and of one of the elements
  of_these : (n : ℕ) (g : Growth) → Contains (grown_by n) g
      → (g.region ≡ region) × (first ≤ g.element) × (g.element < first + n)
  of_these n g h = grind (arith, length-map-range_with_len, get_or-map-range_with_len)

  -- what the owner has then it had, or it is of them
  had : (n b e : ℕ) → Has (after n) b e → Has o b e ⊎ ((b ≡ region) × (first ≤ e) × (e < first + n))
  had n b e h = ⊎_elim
      (λ same.
      ⊎_elim
      (λ (old : Contains o.log h.0). inl (
        h.0,
        subst (λ xs. Contains xs h.0) (sym (list_own o.cut o.me o.log (received_from o) b same)) old,
        h.2,
        h.3,
      ))
      (λ (new : Contains (grown_by n) h.0). let t = of_these n h.0 new in
      inr (sym h.2 ∙ t.0, omega (arith, t.1, h.3), omega (arith, t.2, h.3)))
      (Contains-append_cases o.log (grown_by n) h.0
      (subst (λ xs. Contains xs h.0) (list_own o.cut o.me (o.log ++ grown_by n) (received_from o) b same) h.1)))
      (λ other. inl (
        h.0,
        subst (λ xs. Contains xs h.0)
            (list_other o.cut o.me (o.log ++ grown_by n) (received_from o) b other
            ∙ sym (list_other o.cut o.me o.log (received_from o) b other)) h.1,
        h.2,
        h.3,
      ))
      (cases_eq (owner_of o.cut b) o.me)

  -- it has each of them
  after_has : (n k : ℕ) → k < n → Has (after n) region (first + k)
  after_has n k within = (
    growth_at region first o.clock k,
    subst (λ xs. Contains xs (growth_at region first o.clock k))
        (sym (list_own o.cut o.me (o.log ++ grown_by n) (received_from o) region own))
        (Contains-append_right o.log (grown_by n) (growth_at region first o.clock k) (
          k,
          omega (arith, within, length-map-range_with_len (growth_at region first o.clock) 0 n),
          get_or-map-range_with_len (growth_at region first o.clock) 0 n k k (growth_at region first o.clock k) within
              (omega arith),
        )),
    refl,
    refl,
  )

  after_grows : (n : ℕ) → IsSoundOwner (after n) → OwnerGrows o (after n)
  after_grows n s = record { begins = (grown_by n, refl); others = refl; sound = s }

  -- one more
  one_more : (n : ℕ) → late (after n) ((o.log ++ grown_by n) ++ growth_at region first o.clock n ∷ []) (o.clock + n + 1)
      ≡ after (suc n)
  one_more n =
      let on : n + 1 ≡ suc n = omega arith in
      let log : (o.log ++ grown_by n) ++ growth_at region first o.clock n ∷ [] ≡ o.log ++ grown_by (suc n) =
      append_assoc o.log (grown_by n) (growth_at region first o.clock n ∷ [])
      ∙ ap (λ xs. o.log ++ xs) (sym (map-range_with_len_more (growth_at region first o.clock) 0 n n (omega arith)))
      ∙ ap (λ m. o.log ++ grown_by m) on in
      ap (λ xs. late o xs (o.clock + n + 1)) log ∙ ap (late o (o.log ++ grown_by (suc n))) (omega arith)

  pub after_sound : (n : ℕ) → n ≤ count → IsSoundOwner (after n)
  after_sound zero low =
      subst IsSoundOwner (ap (λ xs. late o xs o.clock) (sym (append-nil o.log)) ∙ ap (late o (o.log
      ++ [])) (omega arith))
      sound
  after_sound (suc n) low =
      let before = after_sound n (omega (arith, low)) in
      let within : n < count = omega (arith, low) in
      subst IsSoundOwner (one_more n)
      (grown_sound (after n) before region (first + n) own (in_elements n within)
      (λ h. ⊎_elim (lacks n within) (λ (new : (region ≡ region) × (first ≤ first + n) × (first + n < first + n)).
      omega (arith, new.2)) (had n region (first + n) h))
      (called_grows o (after n) (after_grows n before) region (first + n) (asked n within))
      (omega (
        arith,
        room,
        within,
        length-append o.log (grown_by n),
        length-map-range_with_len (growth_at region first o.clock) 0 n,
      )))

-- ---- an own region grows by a run that it lacks

module _ (o : Owner) (slots : List ℕ) (values then : List (List Bool)) (kept : AreValuesKept o slots values)
    (region slot : ℕ)
    (at : IsSlot o slot region) (gap : Run) (own : owner_of o.cut region ≡ o.me) (proper : gap.first ≤ gap.last)
    (in_elements : gap.last < element_count o.problem.graph) (asked : (x : ℕ) → IsWithin gap x → IsCalled o region x)
    (lacks : (x : ℕ) → IsWithin gap x → Has o region x → ⊥)
    (gains : Gains (λ s e. (s ≡ slot) × IsWithin gap e) values then)
    (covers : (e : ℕ) → IsWithin gap e → IsHeld then slot e)
    (fewer : ((e : ℕ) → IsWithin gap e → IsHeld values slot e → ⊥)
    → missing_pairs then + (gap.last + 1 - gap.first) ≤ missing_pairs values) where
  abbrev pub count : ℕ
  count = gap.last - gap.first + 1

  abbrev pub run_grown : Owner
  run_grown = late o (o.log ++ growths region gap.first o.clock count) (o.clock + count)

  of_gap : (k : ℕ) → k < count → IsWithin gap (gap.first + k)
  of_gap k low = (omega arith, omega (arith, low, proper))

  missing_then : missing_pairs then + count ≤ missing_pairs values
  missing_then = omega (arith, fewer (λ e own h. lacks e own ((kept.held slot region e at).0 h)), proper)

  run_sound : IsSoundOwner run_grown
  run_sound =
      after_sound o kept.sound region gap.first count own
      (λ k low. (let l = (of_gap k low).1 in omega (arith, l, in_elements))) (λ k low. lacks _ (of_gap k low))
      (λ k low. asked _ (of_gap k low))
      (omega (arith, missing_then, kept.room)) count (omega arith)

  pub run_grows : OwnerGrows o run_grown
  run_grows = record { begins = (growths region gap.first o.clock count, refl); others = refl; sound = run_sound }

  pub run_has : (x : ℕ) → IsWithin gap x → Has run_grown region x
  run_has x own_x =
      let k = x - gap.first in
      subst (λ e. Has run_grown region e) (omega (arith, own_x.0))
      (after_has o kept.sound region gap.first count own
      (λ k low. (let l = (of_gap k low).1 in omega (arith, l, in_elements))) (λ k low. lacks _ (of_gap k low))
      (λ k low. asked _ (of_gap k low))
      (omega (arith, missing_then, kept.room)) count k (omega (arith, own_x.0, own_x.1)))

  run_had : (b e : ℕ) → Has run_grown b e → Has o b e ⊎ ((b ≡ region) × (gap.first ≤ e) × (e < gap.first + count))
  run_had =
      had o kept.sound region gap.first count own (λ k low. (let l = (of_gap k low).1 in omega (arith, l, in_elements)))
      (λ k low. lacks _ (of_gap k low)) (λ k low. asked _ (of_gap k low))
      (omega (arith, missing_then, kept.room)) count

  pub run_kept : AreValuesKept run_grown slots then
  run_kept = record {
    sound = run_sound;
    same_slots = kept.same_slots;
    shaped =
        (let w = slotted_gains o _ values then kept.shaped gains in record { slots = w.slots; elements = w.elements });
    held = λ s r e here. (
      λ h. ⊎_elim
          (λ old. has_grows o run_grown run_grows r e ((kept.held s r e here).0 old))
          (λ (is : (s ≡ slot) × IsWithin gap e). subst (λ x. Has run_grown x e)
          (slot_same o slot region r at (subst (λ x. IsSlot o x r) is.0 here)) (run_has e is.1))
          (gains.cause s e h),
      λ h. ⊎_elim
          (λ old. gains.kept s e ((kept.held s r e here).1 old))
          (λ (is : (r ≡ region) × (gap.first ≤ e) × (e < gap.first + count)).
          subst (λ x. IsHeld then x e) (slots_apart o slot s region at (subst (λ x. IsSlot o s x) is.0 here))
          (covers e (is.1, omega (arith, is.2, proper))))
          (run_had r e h),
    );
    room = omega (
      arith,
      missing_then,
      kept.room,
      length-append o.log (growths region gap.first o.clock count),
      length-map-range_with_len (growth_at region gap.first o.clock) 0 count,
    );
  }
