-- What an owner has once it received the growths of a run.
use Rattle.std.proofs.Common.{◌≡◌, ◌≢◌, ℕ, max, ◌<◌, ◌≤◌, Bool, true, false, cond, List, [], ◌∷◌, ◌++◌, length, Contains, eqb, refl, sym, ap, ◌∙◌, subst, inl, inr, ◌⊎◌, ⊎_elim, arith}
use Rattle.std.specs.Prelude.{Result, Ok, Err, OnOk, OnErr, is_ok}
use Rattle.std.proofs.lemmas.Bool.{cases_eq, cases_lt, false≢true}
use Rattle.std.proofs.lemmas.List.{get_or-set_same, get_or-set_other, length-set}
use Rattle.std.proofs.lemmas.List.Elements.{Contains-append_left, Contains-append_right, Contains-append_cases, Contains-push, Contains-push_cases}
use Rattle.nll_sets.specs.Runs.{IsWithin}
use Rattle.nll_sets.specs.declared.run.Run.{Run}
use Rattle.nll_problem.specs.Graph.{element_count}
use Rattle.nll_core.specs.Growing.{missing_pairs, Gains, Tells as ValuesTells}
use Rattle.nll_core.specs.Values.{set_of, IsHeld}
use Rattle.nll_cut.specs.Partition.{owner_of, reads}
use Rattle.nll_cut.proofs.ReadLemmas.{reads_tells}
use Rattle.nll_mail.specs.declared.growth.Growth.{Growth}
use Rattle.nll_owner.specs.Logs.{IsRunOfLog, IsTold}
use Rattle.nll_owner.specs.Owner.{Owner, IsNoted, received_from, list_in, Has, IsSoundOwner, Passes, with_growths}
use Rattle.nll_owner.specs.Keeping.{AreValuesKept, HasAllBeside, IsLatest, IsSlot, holds_region}
use Rattle.nll_owner.proofs.LogLemmas.{list_other}
use Rattle.nll_owner.proofs.LogRunLemmas.{run_has, run_proper, run_told}
use Rattle.nll_owner.proofs.SlotLemmas.{slot_same, slots_apart, slotted_gains, read_held}
use Rattle.nll_owner.proofs.OwnerLemmas.{IsIn, known_in, supported_in}

-- ---- the highest of a time and the ranks of growths

pub latest_more : (time : ℕ) (gs : List Growth) (old new : ℕ) (g : Growth) → new ≡ max old g.rank → IsLatest time gs old
    → IsLatest time (gs ++ g ∷ []) new
latest_more time gs old new g is before = record {
  up = omega (arith, is, before.up);
  ranks = λ h at. ⊎_elim (λ early. (let l = before.ranks h early in omega (arith, is, l)))
      (λ same. (let r = ap (λ (x : Growth). x.rank) same in omega (arith, is, r))) (Contains-push_cases gs g h at);
  top = ⊎_elim (λ low. inr (g, Contains-push gs g, omega (arith, is, low)))
      (λ high. (let same : new ≡ old = omega (arith, is, high) in ⊎_elim (λ first. inl (same ∙ first))
      (λ (t : (h : Growth) × Contains gs h × (h.rank ≡ old)).
      inr (t.0, Contains-append_left gs (g ∷ []) t.0 t.1, t.2 ∙ sym same)) before.top))
      (cases_lt old g.rank);
}

-- ---- the growths of a run are received

module _ (o : Owner) (slots : List ℕ) (values : List (List Bool)) (kept : AreValuesKept o slots values) (from : ℕ)
    (gs : List Growth) (region : ℕ) (run : Run)
    (are : IsRunOfLog gs 0 (length gs) region run)
    (passes : (g : Growth) → Contains gs g → Passes o.problem o.cut o.me from g) where
  told_proper : run.first ≤ run.last
  told_proper = run_proper gs 0 (length gs) region run are

  of_run : (g : Growth) → Contains gs g → (g.region ≡ region) × IsWithin run g.element
  of_run g at = run_has gs 0 (length gs) region run are at.0 g (omega arith) at.1 at.2

  by_run : (x : ℕ) → IsWithin run x → IsTold gs region x
  by_run x own = run_told gs 0 (length gs) region run are x own

  last : IsTold gs region run.last
  last = by_run run.last (told_proper, omega arith)

  owner : owner_of o.cut region ≡ from
  owner = subst (λ r. owner_of o.cut r ≡ from) last.2 (passes last.0 last.1).sender

  reading : reads o.problem o.cut o.me region ≡ true
  reading = subst (λ r. reads o.problem o.cut o.me r ≡ true) last.2 (passes last.0 last.1).read

  in_elements : run.last < element_count o.problem.graph
  in_elements = subst (λ e. e < element_count o.problem.graph) last.3 (passes last.0 last.1).element

  other : owner_of o.cut region ≢ o.me
  other = ((reads_tells o.problem o.cut o.me region).0 reading).0

  -- a constraint reads the region, so it is one of the problem's
  pub told_region : region < o.problem.regions
  told_region = let k = ((reads_tells o.problem o.cut o.me region).0 reading).1 in
      subst (λ r. r < o.problem.regions) k.3 (kept.sound.problem.constraint_regions k.0 k.1).1

  pub told_held : holds_region o.cut o.me (reads o.problem o.cut o.me) region ≡ true
  told_held = read_held o region reading

  pub from_in : from < length o.received
  from_in =
      (let l = kept.sound.cut.cut.owned region (subst (λ n. region < n) (sym kept.sound.cut.regions) told_region) in
      omega (arith, owner, kept.sound.senders))

  pub told_element : (slot : ℕ) → IsSlot o slot region → run.last < length (set_of values slot)
  told_element slot at = omega (arith, kept.shaped.elements slot at.0, in_elements)

  module _ (clock : ℕ) (latest : IsLatest o.clock gs clock) where
    abbrev pub told_of : Owner
    told_of = record o { received = with_growths o.received from gs; clock = clock }

    received_here : received_from told_of from ≡ received_from o from ++ gs
    received_here = get_or-set_same o.received from (received_from o from ++ gs) [] from_in

    received_other : (j : ℕ) → j ≢ from → received_from told_of j ≡ received_from o j
    received_other j h = get_or-set_other o.received from j (received_from o from ++ gs) [] h

    received_cases : (j : ℕ) (h : Growth) → Contains (received_from told_of j) h
        → Contains (received_from o j) h ⊎ ((j ≡ from) × Contains gs h)
    received_cases j h at = ⊎_elim
        (λ same. ⊎_elim
        (λ old. inl (subst (λ i. Contains (received_from o i) h) (sym same) old))
        (λ new. inr (same, new))
        (Contains-append_cases (received_from o from) gs h
        (subst (λ xs. Contains xs h) received_here (subst (λ i. Contains (received_from told_of i) h) same at))))
        (λ differs. inl (subst (λ xs. Contains xs h) (received_other j differs) at))
        (cases_eq j from)

    received_more : (j : ℕ) → IsIn (received_from o j) (received_from told_of j)
    received_more j h at = ⊎_elim
        (λ same. subst (λ i. Contains (received_from told_of i) h) (sym same)
        (subst (λ xs. Contains xs h) (sym received_here)
        (Contains-append_left (received_from o from) gs h
        (subst (λ i. Contains (received_from o i) h) same at))))
        (λ differs. subst (λ xs. Contains xs h) (sym (received_other j differs)) at)
        (cases_eq j from)

    received_new : (h : Growth) → Contains gs h → Contains (received_from told_of from) h
    received_new h at =
        subst (λ xs. Contains xs h) (sym received_here) (Contains-append_right (received_from o from) gs h at)

    told_longer : (b : ℕ) → IsIn (list_in o b) (list_in told_of b)
    told_longer b = go (eqb (owner_of o.cut b) o.me)
      where
        go : (t : Bool) → IsIn (cond t o.log (received_from o (owner_of o.cut b)))
            (cond t o.log (received_from told_of (owner_of o.cut b)))
        go true h at = at
        go false h at = received_more (owner_of o.cut b) h at

    told_has : (r e : ℕ) → IsTold gs r e → Has told_of r e
    told_has r e t = subst (λ r. Has told_of r e) (sym (of_run t.0 t.1).0 ∙ t.2) (
      t.0,
      subst (λ xs. Contains xs t.0) (sym
          (list_other o.cut o.me o.log (received_from told_of) region other ∙ ap (received_from told_of) owner))
          (received_new t.0 t.1),
      (of_run t.0 t.1).0,
      t.3,
    )

    list_cases : (b : ℕ) (h : Growth) → Contains (list_in told_of b) h → Contains (list_in o b) h ⊎ Contains gs h
    list_cases b h = go (eqb (owner_of o.cut b) o.me)
      where
        go : (t : Bool) → Contains (cond t o.log (received_from told_of (owner_of o.cut b))) h
            → Contains (cond t o.log (received_from o (owner_of o.cut b))) h ⊎ Contains gs h
        go true at = inl at
        go false at = ⊎_elim inl (λ new. inr new.1) (received_cases (owner_of o.cut b) h at)

    told_had : (b e : ℕ) → Has told_of b e → Has o b e ⊎ IsTold gs b e
    told_had b e h = ⊎_elim (λ old. inl (h.0, old, h.2, h.3)) (λ new. inr (h.0, new, h.2, h.3)) (list_cases b h.0 h.1)

    pub told_beside : HasAllBeside gs o told_of
    told_beside = record { here = told_has; kept = λ r e h. known_in _ _ (told_longer r) r e h; cause = told_had }

    told_known : (h : Growth) → IsNoted o h → IsNoted told_of h
    told_known h k =
        ⊎_elim (λ (a : Contains o.log h). inl a)
        (λ (b : (j : ℕ) × Contains (received_from o j) h). inr (b.0, received_more b.0 h b.1)) k

    pub told_sound : IsSoundOwner told_of
    told_sound = record {
      problem = kept.sound.problem;
      cut = kept.sound.cut;
      me = kept.sound.me;
      well_formed = kept.sound.well_formed;
      supported = supported_in o.problem (list_in o) (list_in told_of) told_longer o.log kept.sound.supported;
      based = λ loaded r e own base. known_in _ _ (told_longer r) r e (kept.sound.based loaded r e own base);
      elements = kept.sound.elements;
      few = kept.sound.few;
      senders = length-set o.received from (received_from o from ++ gs) ∙ kept.sound.senders;
      heard = λ j h at. ⊎_elim (λ old. kept.sound.heard j h old)
          (λ (new : (j ≡ from) × Contains gs h).
          ((passes h new.1).sender ∙ sym new.0, (passes h new.1).read)) (received_cases j h at);
      own_ranks = λ h at. (let l = kept.sound.own_ranks h at in omega (arith, l, latest.up));
      heard_ranks =
          λ j h at. ⊎_elim (λ old. (let l = kept.sound.heard_ranks j h old in omega (arith, l, latest.up)))
          (λ (new : (j ≡ from) × Contains gs h). latest.ranks h new.1) (received_cases j h at);
      early = λ j h at. ⊎_elim (λ old. kept.sound.early j h old)
          (λ (new : (j ≡ from) × Contains gs h). (passes h new.1).rank) (received_cases j h at);
      paced = λ n all.
          let before = kept.sound.paced n (λ j h at. all j h (received_more j h at)) in
          ⊎_elim (λ (same : clock ≡ o.clock). omega (arith, before, same))
          (λ (t : (h : Growth) × Contains gs h × (h.rank ≡ clock)).
          (let here = all from t.0 (received_new t.0 t.1) in let is = t.2 in omega (arith, here, is))) latest.top;
      top = ⊎_elim
          (λ (same : clock ≡ o.clock). ⊎_elim
          (λ (none : o.clock ≡ 0). inl (same ∙ none))
          (λ (t : (h : Growth) × IsNoted o h × (h.rank ≡ o.clock)). inr (t.0, told_known t.0 t.1, t.2 ∙ sym same))
          kept.sound.top)
          (λ (t : (h : Growth) × Contains gs h × (h.rank ≡ clock)).
          inr (t.0, inr (from, received_new t.0 t.1), t.2)) latest.top;
      steps = λ h at more. let x = kept.sound.steps h at more in (x.0, told_known x.0 x.1, x.2);
      receivers = kept.sound.receivers;
      given = kept.sound.given;
    }

    module _ (slot : ℕ) (at : IsSlot o slot region) (then : List (List Bool)) (changed : Bool)
        (gains : Gains (λ s e. (s ≡ slot) × IsWithin run e) values then)
        (covers : (e : ℕ) → IsWithin run e → IsHeld then slot e)
        (tells : ValuesTells changed values then) where
      no_fewer : missing_pairs then ≤ missing_pairs values
      no_fewer = go changed tells
        where
          go : (b : Bool) → ValuesTells b values then → missing_pairs then ≤ missing_pairs values
          go true t = (let l = t.fewer refl in omega arith)
          go false t = subst (λ v. missing_pairs v ≤ missing_pairs values) (sym (t.same refl)) (omega arith)

      pub told_kept : AreValuesKept told_of slots then
      told_kept = record {
        sound = told_sound;
        same_slots = kept.same_slots;
        shaped =
            (let w = slotted_gains o _ values _ kept.shaped gains in
            record { slots = w.slots; elements = w.elements });
        held = λ s r e here. (
          λ h. ⊎_elim
              (λ old. known_in _ _ (told_longer r) r e ((kept.held s r e here).0 old))
              (λ (is : (s ≡ slot) × IsWithin run e). subst (λ x. Has told_of x e)
              (slot_same o slot region r at (subst (λ x. IsSlot o x r) is.0 here))
              (told_has region e (by_run e is.1)))
              (gains.cause s e h),
          λ h. ⊎_elim
              (λ old. gains.kept s e ((kept.held s r e here).1 old))
              (λ (t : IsTold gs r e). let own = of_run t.0 t.1 in
              subst (λ x. IsHeld then x e)
              (slots_apart o slot s region at (subst (λ x. IsSlot o s x) (sym t.2 ∙ own.0) here))
              (covers e (subst (λ x. IsWithin run x) t.3 own.1)))
              (told_had r e h),
        );
        room = omega (arith, no_fewer, kept.room);
      }

-- what holds where a result is an Ok
pub ok_gives : {T E P : Type 0} (r : Result T E) → OnOk r P → is_ok r ≡ true → P
ok_gives (Ok x) p h = p
ok_gives (Err e) p h = absurd (false≢true h)

pub on_err_always : {T E P : Type 0} (r : Result T E) → P → OnErr r P
on_err_always (Ok x) p = tt
on_err_always (Err e) p = p
