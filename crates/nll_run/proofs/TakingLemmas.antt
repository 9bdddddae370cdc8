-- Sets are taken out of the holdings of all owners, region by region.
use Rattle.std.proofs.Common.{◌≡◌, ◌≢◌, ◌↔◌, true, ℕ, ◌+◌, ◌<◌, ◌≤◌, Bool, List, [], ◌∷◌, ◌++◌, length, set, get_or, refl, sym, ap, ◌∙◌, subst, ⊎_elim, arith}
use Rattle.std.proofs.lemmas.Bool.{cases_eq, cases_lt, false≢true}
use Rattle.std.proofs.lemmas.List.{get_or_default, get_or_past, get_or-set_other, get_or-set_same}
use Rattle.nll_sets.specs.ElementSet.{flag}
use Rattle.nll_problem.specs.Problem.{Problem}
use Rattle.nll_core.specs.Values.{IsHeld, IsShaped, set_of}
use Rattle.nll_cut.specs.Partition.{Cut, owner_of}
use Rattle.nll_mail.specs.declared.growth.Growth.{Growth}
use Rattle.nll_owner.specs.Logs.{IsCutOf, IsTold, log_of}
use Rattle.nll_owner.specs.Holding.{Holding, HasSet}
use Rattle.nll_run.specs.Holdings.{HaveValuesOf, holding_of}
use Rattle.run.proofs.PlaceLemmas.{list_low, list_last, set_size, push_size}

-- The sets of the first regions were taken out of the holdings of their owners; those of the others are there still.
pub record AreTaken (c : Cut) (count : ℕ) (old now : List Holding) (sets : List (List Bool)) : Type 0 where
  pub as_many : length now ≡ length old
  pub rest :
      (i r : ℕ) (xs : List Bool) → count ≤ r
      → HasSet (holding_of now i) r xs ↔ HasSet (holding_of old i) r xs
  pub size : length sets ≡ count
  pub each : (r : ℕ) → r < count → HasSet (holding_of old (owner_of c r)) r (set_of sets r)

-- a region is left, whose owner's holding is read in place
module _ (c : Cut) (count : ℕ) (old now : List Holding) (sets : List (List Bool)) (w : AreTaken c count old now sets)
    (i : ℕ) (own : i ≡ owner_of c count) (within : i < length now) (h : Holding) (is : h ≡ get_or now i h) where
  there : h ≡ holding_of now i
  there = is ∙ get_or_default now i h (record { regions = []; sets = [] }) within

  owned_by : h ≡ holding_of now (owner_of c count)
  owned_by = there ∙ ap (holding_of now) own

  -- it has a set of the region
  pub has_set : (q : Problem) → count < q.regions → IsCutOf q c → (logs : List (List Growth))
      → HaveValuesOf q c logs old → (xs : List Bool) × HasSet h count xs
  has_set q low cut logs have =
      let x = (have.each (owner_of c count) (cut.cut.owned count (omega (arith, low, cut.regions)))).whole count low
      refl in (
        x.0,
        subst (λ y. HasSet y count x.0) (sym owned_by) ((w.rest (owner_of c count) count x.0 (omega arith)).1 x.1),
      )

  -- the set is taken
  module _ (taken : List Bool) (left : Holding) (here : HasSet h count taken)
      (others : (r : ℕ) (xs : List Bool) → r ≢ count → HasSet left r xs ↔ HasSet h r xs) where
    abbrev next : List Holding
    next = set now i left

    stays : (j r : ℕ) (xs : List Bool) → count + 1 ≤ r
        → HasSet (holding_of next j) r xs ↔ HasSet (holding_of now j) r xs
    stays j r xs low = ⊎_elim
        (λ (same : j ≡ i).
        let at : holding_of next j ≡ left =
        ap (holding_of next) same ∙ get_or-set_same now i left (record { regions = []; sets = [] }) within in
        let back : h ≡ holding_of now j = there ∙ ap (holding_of now) (sym same) in
        let both = others r xs (λ here. omega (arith, low, here)) in (
          λ t. subst (λ y. HasSet y r xs) back (both.0 (subst (λ y. HasSet y r xs) at t)),
          λ t. subst (λ y. HasSet y r xs) (sym at) (both.1 (subst (λ y. HasSet y r xs) (sym back) t)),
        ))
        (λ (other : j ≢ i).
        let at : holding_of next j ≡ holding_of now j =
        get_or-set_other now i j left (record { regions = []; sets = [] }) other in
        (λ t. subst (λ y. HasSet y r xs) at t, λ t. subst (λ y. HasSet y r xs) (sym at) t))
        (cases_eq j i)

    pub taken_more : AreTaken c (count + 1) old (set now i left) (sets ++ taken ∷ [])
    taken_more = record {
      as_many = set_size now i left ∙ w.as_many;
      rest = λ j r xs low.
          let a = stays j r xs low in
          let b = w.rest j r xs (omega (arith, low)) in
          (λ t. b.0 (a.0 t), λ t. a.1 (b.1 t));
      size = push_size sets taken ∙ ap (λ n. n + 1) w.size;
      each = λ r low. ⊎_elim
          (λ (early : r < count).
          subst (λ xs. HasSet (holding_of old (owner_of c r)) r xs)
          (sym (list_low sets taken r (omega (arith, early, w.size)))) (w.each r early))
          (λ (late : count ≤ r).
          let last : r ≡ count = omega (arith, low, late) in
          subst (λ (y : ℕ × List Bool). HasSet (holding_of old (owner_of c y.0)) y.0 y.1)
          (λ k. (sym last k, sym (list_last sets taken r (omega (arith, last, w.size))) k))
          ((w.rest (owner_of c count) count taken (omega arith)).0
          (subst (λ y. HasSet y count taken) owned_by here)))
          (cases_lt r count);
    }

-- once all are taken, they are the values that the logs tell
module _ (q : Problem) (c : Cut) (cut : IsCutOf q c) (old now : List Holding) (sets : List (List Bool))
    (w : AreTaken c q.regions old now sets) (logs : List (List Growth)) (have : HaveValuesOf q c logs old) where
  owned : (r : ℕ) → r < q.regions → owner_of c r < c.owners
  owned r low = cut.cut.owned r (omega (arith, low, cut.regions))

  pub taken_shaped : IsShaped q sets
  taken_shaped = record {
    regions = w.size;
    elements = λ r low. (have.each (owner_of c r) (owned r low)).shaped r (set_of sets r) refl (w.each r low);
  }

  none_held : (r e : ℕ) → q.regions ≤ r → IsHeld sets r e → ⊥
  none_held r e past h =
      false≢true (subst (λ xs. flag xs e ≡ true) (get_or_past sets r [] (omega (arith, past, w.size))) h)

  none_told : (r e : ℕ) → q.regions ≤ r → IsTold (log_of logs (owner_of c r)) r e → ⊥
  none_told r e past t =
      let nobody : owner_of c r ≡ c.owners = get_or_past c.list r c.owners (omega (arith, past, cut.regions)) in
      let none : log_of logs (owner_of c r) ≡ [] =
      get_or_past logs (owner_of c r) [] (omega (arith, nobody, have.logs_counted)) in
      let l = (subst (λ xs. IsTold xs r e) none t).1.1 in
      omega (arith, l)

  pub taken_told : (r e : ℕ) → IsHeld sets r e ↔ IsTold (log_of logs (owner_of c r)) r e
  taken_told r e = ⊎_elim
      (λ (low : r < q.regions).
      (have.each (owner_of c r) (owned r low)).told r e (set_of sets r) refl (w.each r low))
      (λ (past : q.regions ≤ r).
      (λ h. absurd (none_held r e past h), λ t. absurd (none_told r e past t)))
      (cases_lt r q.regions)
