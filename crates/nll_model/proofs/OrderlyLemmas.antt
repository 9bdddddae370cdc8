-- What owners keep that go on, also to a refusal.
use Rattle.std.proofs.Common.{◌≡◌, ◌≢◌, ℕ, ◌<◌, ◌≤◌, List, [], ◌∷◌, ◌++◌, length, Contains, get_or, set, slice_get, Some, sym, ap, ◌∙◌, subst, inl, inr, ◌⊎◌, ⊎_elim, arith, append-nil, append_assoc}
use Rattle.std.proofs.lemmas.Bool.{cases_eq, cases_lt}
use Rattle.std.proofs.lemmas.List.{length-set, get_or-set_same, get_or-set_other, get_or_past}
use Rattle.std.proofs.lemmas.List.Elements.{Contains-append_left, Contains-push_cases}
use Rattle.nll_problem.specs.Problem.{Problem}
use Rattle.nll_cut.specs.Partition.{Cut}
use Rattle.nll_mail.specs.declared.growth.Growth.{Growth}
use Rattle.nll_owner.specs.Logs.{IsPrefix}
use Rattle.nll_owner.specs.Owner.{Owner, IsSoundOwner, received_from, with_growth}
use Rattle.fixpoint.proofs.ListLemmas.{filter_from}
use Rattle.nll_model.specs.State.{Seat, WorldState, IsAt}
use Rattle.nll_model.specs.Soundness.{IsOwner, IsOrderly, IsSoundState}
use Rattle.nll_model.specs.Working.{OwnerGoesOn, NoGrowth, IsGrowthFrom}
use Rattle.nll_model.proofs.LaneLemmas.{set_cases}

-- ---- one owner

-- only what it gave out has changed
pub given_out : (old new : Owner) → new ≡ record old { given = new.given } → IsSoundOwner new
    → OwnerGoesOn NoGrowth old new
given_out old new is sound = record {
  begins = ([], ap (λ (o : Owner). o.log) is ∙ sym (append-nil old.log));
  problem = ap (λ (o : Owner). o.problem) is;
  cut = ap (λ (o : Owner). o.cut) is;
  me = ap (λ (o : Owner). o.me) is;
  sound = sound;
  heard = λ j g h. inl (subst (λ (o : Owner). Contains (received_from o j) g) is h);
}

pub stays : (old new : Owner) → new ≡ old → IsSoundOwner old → OwnerGoesOn NoGrowth old new
stays old new is sound =
    given_out old new (is ∙ ap (λ (o : Owner). record old {
      given =
          o.given;
    }) (sym is)) (subst IsSoundOwner (sym is) sound)

pub goes_further : (came : ℕ → Growth → Type 0) (old now new : Owner) → OwnerGoesOn came old now
    → OwnerGoesOn NoGrowth now new
    → OwnerGoesOn came old new
goes_further came old now new one two = record {
  begins = (
    one.begins.0 ++ two.begins.0,
    two.begins.1
        ∙ (ap (λ xs. xs ++ two.begins.0) one.begins.1 ∙ append_assoc old.log one.begins.0 two.begins.0),
  );
  problem = two.problem ∙ one.problem;
  cut = two.cut ∙ one.cut;
  me = two.me ∙ one.me;
  sound = two.sound;
  heard = λ j g h. ⊎_elim (λ (x : Contains (received_from now j) g). one.heard j g x) (λ (x : NoGrowth j g). absurd x)
      (two.heard j g h);
}

-- it received a growth, or that was refused
module _ (old new : Owner) (from : ℕ) (growth : Growth) (begins : IsPrefix old.log new.log)
    (is : new ≡ record old { log = new.log; received = new.received; clock = new.clock; broken = new.broken })
    (perhaps : (new.received ≡ old.received) ⊎ (new.received ≡ with_growth old.received from growth))
    (sound : IsSoundOwner new) where
  in_lists : (j : ℕ) (g : Growth) → Contains (get_or (with_growth old.received from growth) j []) g
      → Contains (received_from old j) g ⊎ IsGrowthFrom from growth j g
  in_lists j g h = ⊎_elim
      (λ (same : j ≡ from). ⊎_elim
      (λ (within : from < length old.received).
      let one =
      subst (λ xs. Contains xs g) (ap (λ k. get_or (with_growth old.received from growth) k []) same
      ∙ get_or-set_same old.received from (received_from old from ++ growth ∷ []) [] within) h in
      ⊎_elim
      (λ (there : Contains (received_from old from) g).
      inl (subst (λ k. Contains (received_from old k) g) (sym same) there))
      (λ (last : growth ≡ g). inr (same, sym last))
      (Contains-push_cases (received_from old from) growth g one))
      (λ (past : length old.received ≤ from).
      let none =
      get_or_past (with_growth old.received from growth) j []
      (omega (arith, past, same, length-set old.received from (received_from old from ++ growth ∷ []))) in
      absurd (let l = (subst (λ xs. Contains xs g) none h).1 in omega arith))
      (cases_lt from (length old.received)))
      (λ (differs : j ≢ from). inl (subst (λ xs. Contains xs g)
      (get_or-set_other old.received from j (received_from old from ++ growth ∷ []) [] differs) h))
      (cases_eq j from)

  pub received_on : OwnerGoesOn (IsGrowthFrom from growth) old new
  received_on = record {
    begins = begins;
    problem = ap (λ (o : Owner). o.problem) is;
    cut = ap (λ (o : Owner). o.cut) is;
    me = ap (λ (o : Owner). o.me) is;
    sound = sound;
    heard = λ j g h. ⊎_elim
        (λ (same : new.received ≡ old.received).
        inl (subst (λ (xs : List (List Growth)). Contains (get_or xs j []) g) same h))
        (λ (more : new.received ≡ with_growth old.received from growth).
        in_lists j g (subst (λ (xs : List (List Growth)). Contains (get_or xs j []) g) more h))
        perhaps;
  }

-- ---- all owners

module _ (q : Problem) (c : Cut) (w : WorldState) (orderly : IsOrderly q c w) (i : ℕ) (s : Seat) (at : IsAt w i s)
    (t : Seat)
    (balance : ℕ) (came : ℕ → Growth → Type 0) (on : OwnerGoesOn came s.owner t.owner)
    (from_log : (j : ℕ) (g : Growth) (u : Seat) → came j g → IsAt w j u → Contains u.owner.log g) where
  is_owner : IsOwner q c i t.owner
  is_owner = let old = orderly.owners i s at in record {
    problem = on.problem ∙ old.problem;
    cut = on.cut ∙ old.cut;
    me = on.me ∙ old.me;
    sound = on.sound;
  }

  later : (g : Growth) → Contains s.owner.log g → Contains t.owner.log g
  later g h = subst (λ xs. Contains xs g) (sym on.begins.1) (Contains-append_left s.owner.log on.begins.0 g h)

  pub orderly_then : IsOrderly q c (record { seats = set w.seats i t; balance = balance })
  orderly_then = record {
    count = length-set w.seats i t ∙ orderly.count;
    owners = λ k x h. ⊎_elim
        (λ (p : (k ≡ i) × (x ≡ t)). subst (λ (y : Seat). IsOwner q c k y.owner) (sym p.1)
        (subst (λ m. IsOwner q c m t.owner) (sym p.0) is_owner))
        (λ (p : (k ≢ i) × (slice_get w.seats k ≡ Some x)). orderly.owners k x p.1)
        (set_cases w.seats i t k x h);
    heard = λ a b x y g differ hx hy told. ⊎_elim
        (λ (p : (a ≡ i) × (x ≡ t)). ⊎_elim
        (λ (r : (b ≡ i) × (y ≡ t)). absurd (differ (p.0 ∙ sym r.0)))
        (λ (r : (b ≢ i) × (slice_get w.seats b ≡ Some y)). ⊎_elim
        (λ (old : Contains (received_from s.owner b) g). orderly.heard i b s y g (λ e. r.0 (sym e)) at r.1 old)
        (λ (new : came b g). from_log b g y new r.1)
        (on.heard b g (subst (λ (z : Seat). Contains (received_from z.owner b) g) p.1 told)))
        (set_cases w.seats i t b y hy))
        (λ (p : (a ≢ i) × (slice_get w.seats a ≡ Some x)). ⊎_elim
        (λ (r : (b ≡ i) × (y ≡ t)). subst (λ (z : Seat). Contains z.owner.log g) (sym r.1)
        (later g (orderly.heard a i x s g p.0 p.1 at (subst (λ m. Contains (received_from x.owner m) g) r.0 told))))
        (λ (r : (b ≢ i) × (slice_get w.seats b ≡ Some y)). orderly.heard a b x y g differ p.1 r.1 told)
        (set_cases w.seats i t b y hy))
        (set_cases w.seats i t a x hx);
  }

-- the same of a state that is seen by its parts, where no growth came
pub orderly_after : (q : Problem) (c : Cut) (w v : WorldState) (i : ℕ) (s t : Seat) (balance : ℕ) → v ≡ w → IsAt w i s
    → OwnerGoesOn NoGrowth s.owner t.owner → IsOrderly q c w
    → IsOrderly q c (record { seats = set v.seats i t; balance = balance })
orderly_after q c w v i s t balance is at on orderly =
    subst (λ (x : WorldState). IsOrderly q c (record { seats = set x.seats i t; balance = balance })) (sym is)
    (orderly_then q c w orderly i s at t balance NoGrowth on (λ j g u came _. absurd came))

-- ---- what is sound is orderly

pub sound_is_orderly : (q : Problem) (c : Cut) (w : WorldState) → IsSoundState q c w → IsOrderly q c w
sound_is_orderly q c w sound = record {
  count = sound.count;
  owners = λ i s at. let seat = sound.seats i s at in
      record { problem = seat.problem; cut = seat.cut; me = seat.me; sound = seat.sound };
  heard = λ i j s t g differ hs ht h.
      let told = Contains-append_left (received_from s.owner j) _ g h in
      let in_part = subst (λ xs. Contains xs g) (sym (sound.ways j i t s (λ e. differ (sym e)) ht hs)) told in
      (filter_from _ t.owner.log g in_part).0;
}
