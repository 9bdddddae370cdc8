-- What lists of runs tell, and which of their runs are due.
use Rattle.std.proofs.Common.{◌≡◌, ◌⊎◌, ⊎_elim, ℕ, ◌+◌, ◌-◌, ◌<◌, ◌≤◌, List, [], ◌∷◌, ◌++◌, length, set, get_or, drop, Contains, refl, sym, ap, ◌∙◌, subst, inl, inr, arith}
use Rattle.std.proofs.lemmas.Bool.{cases_lt}
use Rattle.std.proofs.lemmas.List.{get_or-drop, get_or_default, length-drop}
use Rattle.std.proofs.lemmas.List.Elements.{Contains-append_left, Contains-push, Contains-push_cases}
use Rattle.std.proofs.lemmas.List.Sorted.{Contains-permutation, IsPermutation-sym}
use Rattle.std.specs.Prelude.{IsPermutation}
use Rattle.nll_sets.specs.Runs.{IsWithin}
use Rattle.nll_sets.specs.declared.run.Run.{Run}
use Rattle.nll_mail.specs.declared.growth.Growth.{Growth}
use Rattle.nll_owner.specs.Logs.{IsRunOfLog, IsTold}
use Rattle.nll_owner.specs.Owner.{Owner}
use Rattle.nll_owner.specs.Keeping.{OwnerGrows}
use Rattle.nll_owner.specs.Following.{OfRunOr}
use Rattle.nll_owner.specs.RegionRuns.{SaysRun, AreDue, AreHeld, IsInside, AreProper, IsToldByRuns, TellTheSame}
use Rattle.nll_owner.specs.declared.link.Due.{Due}
use Rattle.nll_owner.specs.declared.region_runs.RegionRun.{RegionRun}
use Rattle.nll_owner.proofs.LinkingLemmas.{in_set, set_here, set_kept}
use Rattle.nll_owner.proofs.LogRunLemmas.{run_has, run_proper, run_told}
use Rattle.nll_owner.proofs.OwnerLemmas.{has_grows, grows_le, slot_still}

-- ---- the elements behind a place

-- what stands behind a place stands before another one, or behind that
drop_up_to : {X : Type 0} (from to : ℕ) (xs : List X) → from ≤ to → to ≤ length xs → (y : X) → Contains (drop from xs) y
    → ((k : ℕ) × (from ≤ k) × (k < to) × (get_or xs k y ≡ y)) ⊎ Contains (drop to xs) y
drop_up_to from to xs low high y h =
    let within : from + h.0 < length xs = omega (arith, h.1, length-drop from xs, low, high) in
    let is : get_or xs (from + h.0) y ≡ y = sym (get_or-drop from xs h.0 y) ∙ h.2 in
    ⊎_elim
    (λ before. inl (from + h.0, omega arith, before, is))
    (λ behind.
    let on : to + (from + h.0 - to) ≡ from + h.0 = omega (arith, behind) in
    inr (
      from + h.0 - to,
      omega (arith, within, behind, length-drop to xs),
      get_or-drop to xs (from + h.0 - to) y
          ∙ (ap (λ i. get_or xs i y) on ∙ is),
    ))
    (cases_lt (from + h.0) to)

pub contains_dropped : {X : Type 0} (n : ℕ) (xs : List X) (y : X) → Contains (drop n xs) y → Contains xs y
contains_dropped n xs y h = (n + h.0, omega (arith, h.1, length-drop n xs), sym (get_or-drop n xs h.0 y) ∙ h.2)

-- what holds at each place before a number and at the number holds at each place before the next
pub at_next : {X : Type 0} (P : X → Type 0) (xs : List X) (n : ℕ) (x : X) → n < length xs → x ≡ get_or xs n x
    → ((k : ℕ) (y : X) → k < n → get_or xs k y ≡ y → P y) → P x → (k : ℕ) (y : X) → k < n + 1 → get_or xs k y ≡ y → P y
at_next P xs n x within is before here k y low at = ⊎_elim
    (λ early. before k y early at)
    (λ late.
    let last : k ≡ n = omega (arith, late, low) in
    subst P (is ∙ (get_or_default xs n x y within ∙ (sym (ap (λ i. get_or xs i y) last) ∙ at))) here)
    (cases_lt k n)

-- ---- what the first runs tell

pub told_up_to : (runs : List RegionRun) (count r e : ℕ) → count ≤ length runs → IsToldByRuns runs r e
    → ((n : ℕ) × (k : RegionRun) × (n < count) × (get_or runs n k ≡ k) × (k.region ≡ r) × (k.run.first ≤ e)
    × (e ≤ k.run.last)) ⊎ IsToldByRuns (drop count runs) r e
told_up_to runs count r e low t = ⊎_elim
    (λ early. inl (early.0, t.0, early.2, early.3, t.2, t.3, t.4))
    (λ late. inr (t.0, late, t.2, t.3, t.4))
    (drop_up_to 0 count runs (omega arith) low t.0 t.1)

-- what runs behind a place tell of a region is of the run there, or told behind that
pub due_at : (runs : List RegionRun) (n r e : ℕ) (k : RegionRun) → n < length runs → k ≡ get_or runs n k → k.region ≡ r
    → IsToldByRuns (drop n runs) r e → OfRunOr (drop (n + 1) runs) r k.run.first k.run.last r e
due_at runs n r e k within is of t = ⊎_elim
    (λ early.
    let here : early.0 ≡ n = omega (arith, early.1, early.2) in
    let same : t.0 ≡ k =
    sym early.3 ∙ (ap (λ i. get_or runs i t.0) here ∙ (get_or_default runs n t.0 k within ∙ sym is)) in
    inl (refl, subst (λ (x : RegionRun). x.run.first ≤ e) same t.3, subst (λ (x : RegionRun). e ≤ x.run.last) same t.4))
    (λ late. inr (t.0, late, t.2, t.3, t.4))
    (drop_up_to n (n + 1) runs (omega arith) (omega (arith, within)) t.0 t.1)

-- ---- runs that an owner holds

pub held_behind : (o : Owner) (runs : List RegionRun) (n : ℕ) → AreHeld o runs → AreHeld o (drop n runs)
held_behind o runs n w = record {
  proper = λ k h. w.proper k (contains_dropped n runs k h);
  regions = λ k h. w.regions k (contains_dropped n runs k h);
  has = λ k h. w.has k (contains_dropped n runs k h);
}

module _ (old new : Owner) (g : OwnerGrows old new) (runs : List RegionRun) where
  pub held_grows : AreHeld old runs → AreHeld new runs
  held_grows w = record {
    proper = w.proper;
    regions = λ k h. subst (λ (o : Owner). k.region < o.problem.regions) (sym g.others) (w.regions k h);
    has = λ k h e own. has_grows old new g k.region e (w.has k h e own);
  }

module _ (old new : Owner) (g : OwnerGrows old new) (d : Due) where
  pub inside_grows : IsInside old d → IsInside new d
  inside_grows w = grind (arith, slot_still, grows_le)

  pub due_grows : AreDue old d → AreDue new d
  due_grows w = record {
    inside = inside_grows w.inside;
    some = w.some;
    count = w.count;
    first = w.first;
    held = held_grows old new g d.runs.now w.held;
  }

-- ---- the runs of growths

-- the growths before a place are told, and what is told is of the growths
pub record AreListed (growths : List Growth) (place : ℕ) (list : List RegionRun) : Type 0 where
  pub proper : AreProper list
  pub each : (k : ℕ) (g : Growth) → k < place → get_or growths k g ≡ g → IsToldByRuns list g.region g.element
  pub cause : (r e : ℕ) → IsToldByRuns list r e → IsTold growths r e

told_pushed : (list : List RegionRun) (k : RegionRun) (r e : ℕ) → IsToldByRuns list r e
    → IsToldByRuns (list ++ k ∷ []) r e
told_pushed list k r e t = (t.0, Contains-append_left list (k ∷ []) t.0 t.1, t.2, t.3, t.4)

pub listed_none : (growths : List Growth) (list : List RegionRun) → list ≡ [] → AreListed growths 0 list
listed_none growths list none = subst (AreListed growths 0) (sym none) (record {
  proper = λ k h. absurd (let l = h.1 in omega arith);
  each = λ k g low is. absurd (omega (arith, low));
  cause = λ r e t. absurd (let l = t.1.1 in omega arith);
})

pub listed_more : (growths : List Growth) (place end r : ℕ) (run : Run) (list : List RegionRun)
    → IsRunOfLog growths place end r run → AreListed growths place list
    → AreListed growths end (list ++ record { region = r; run = run } ∷ [])
listed_more growths place end r run list are w = record {
  proper = λ x h. ⊎_elim
      (λ before. w.proper x before)
      (λ (is : k ≡ x). subst (λ (y : RegionRun). y.run.first ≤ y.run.last) is (run_proper growths place end r run are))
      (Contains-push_cases list k x h);
  each = λ n g low is. ⊎_elim
      (λ early. told_pushed list k g.region g.element (w.each n g early is))
      (λ late. let t = run_has growths place end r run are n g late low is in
      (k, Contains-push list k, sym t.0, t.1.0, t.1.1))
      (cases_lt n place);
  cause = λ s e t. ⊎_elim
      (λ before. w.cause s e (t.0, before, t.2, t.3, t.4))
      (λ (is : k ≡ t.0).
      let of : r ≡ s = ap (λ (y : RegionRun). y.region) is ∙ t.2 in
      subst (λ q. IsTold growths q e) of (run_told growths place end r run are e (
        subst (λ (y : RegionRun). y.run.first ≤ e) (sym is) t.3,
        subst (λ (y : RegionRun). e ≤ y.run.last) (sym is) t.4,
      )))
      (Contains-push_cases list k t.0 t.1);
}
  where
    k : RegionRun
    k = record { region = r; run = run }

pub listed_all : (growths : List Growth) (place : ℕ) (list : List RegionRun) → length growths ≤ place
    → AreListed growths place list → TellTheSame growths list
listed_all growths place list past w = grind arith

-- in another order they tell the same
pub told_permuted : (growths : List Growth) (old new : List RegionRun) → IsPermutation old new → TellTheSame growths old
    → TellTheSame growths new
told_permuted growths old new same w = record {
  proper = λ k h. w.proper k (Contains-permutation _ _ k (IsPermutation-sym _ _ same) h);
  each = λ r e t. (let k = w.each r e t in (k.0, Contains-permutation _ _ k.0 same k.1, k.2, k.3, k.4));
  cause = λ r e t. w.cause r e (t.0, Contains-permutation _ _ t.0 (IsPermutation-sym _ _ same) t.1, t.2, t.3, t.4);
}

-- ---- a run is put at the end of a list

pub pushed : (run : RegionRun) (list : List RegionRun) → AreProper list → run.run.first ≤ run.run.last
    → SaysRun run list (list ++ run ∷ [])
pushed run list before proper = record {
  proper = λ x h. ⊎_elim
      (before x)
      (λ (is : run ≡ x). subst (λ (y : RegionRun). y.run.first ≤ y.run.last) is proper)
      (Contains-push_cases list run x h);
  kept = told_pushed list run;
  here = λ e own. (run, Contains-push list run, refl, own.0, own.1);
  cause = λ r e t. ⊎_elim
      (λ before. inl (t.0, before, t.2, t.3, t.4))
      (λ (is : run ≡ t.0). inr (
        ap (λ (y : RegionRun). y.region) is ∙ t.2,
        (
          subst (λ (y : RegionRun). y.run.first ≤ e) (sym is) t.3,
          subst (λ (y : RegionRun). e ≤ y.run.last) (sym is) t.4,
        ),
      ))
      (Contains-push_cases list run t.0 t.1);
}

-- the run goes on from one of the list, which is longer then
module _ (run old new : RegionRun) (list : List RegionRun) (p : ℕ) (within : p < length list)
    (is : get_or list p old ≡ old) (before : AreProper list) (proper : run.run.first ≤ run.run.last)
    (of : old.region ≡ run.region) (next : run.run.first ≡ old.run.last + 1)
    (longer : new ≡ record {
      region = old.region;
      run = record { first = old.run.first; last = run.run.last };
    }) where
  region : new.region ≡ old.region
  region = ap (λ (y : RegionRun). y.region) longer

  first : new.run.first ≡ old.run.first
  first = ap (λ (y : RegionRun). y.run.first) longer

  last : new.run.last ≡ run.run.last
  last = ap (λ (y : RegionRun). y.run.last) longer

  there : Contains (set list p new) new
  there = set_here list p old new within is

  old_there : Contains list old
  old_there = (p, within, is)

  old_proper : old.run.first ≤ old.run.last
  old_proper = before old old_there

  pub joined : SaysRun run list (set list p new)
  joined = record {
    proper = λ x h. ⊎_elim
        (λ (same : x ≡ new). subst (λ (y : RegionRun). y.run.first ≤ y.run.last) (sym same)
        (omega (arith, old_proper, first, last, next, proper)))
        (before x)
        (in_set list p old new within is x h);
    kept = λ r e t. ⊎_elim
        (λ (same : t.0 ≡ old). (
          new,
          there,
          region ∙ (sym (ap (λ (y : RegionRun). y.region) same) ∙ t.2),
          (let a = subst (λ (y : RegionRun). y.run.first ≤ e) same t.3 in omega (arith, a, first)),
          (let a = subst (λ (y : RegionRun). e ≤ y.run.last) same t.4 in omega (arith, a, last, next, proper)),
        ))
        (λ other. (t.0, other, t.2, t.3, t.4))
        (set_kept list p old new within is t.0 t.1);
    here = λ e own. (
      new,
      there,
      region ∙ of,
      omega (arith, own.0, first, next, old_proper),
      omega (arith, own.1, last),
    );
    cause = λ r e t. ⊎_elim
        (λ (same : t.0 ≡ new). joins r e (subst
        (λ (y : RegionRun). (y.region ≡ r) × (y.run.first ≤ e) × (e ≤ y.run.last)) same (t.2, t.3, t.4)))
        (λ other. inl (t.0, other, t.2, t.3, t.4))
        (in_set list p old new within is t.0 t.1);
  }
    where
      joins : (r e : ℕ) → (new.region ≡ r) × (new.run.first ≤ e) × (e ≤ new.run.last)
          → IsToldByRuns list r e ⊎ ((run.region ≡ r) × IsWithin run.run e)
      joins r e w = ⊎_elim
          (λ past. inr (sym of ∙ (sym region ∙ w.0), (omega (arith, past, next), omega (arith, w.2, last))))
          (λ near. inl (old, old_there, sym region ∙ w.0, omega (arith, w.1, first), near))
          (cases_lt old.run.last e)

-- ---- runs are put at the end of a list one after another

-- the runs before a place are told, and what is told is of the runs
pub record AreMerged (told : List RegionRun) (place : ℕ) (list : List RegionRun) : Type 0 where
  pub proper : AreProper list
  pub each : (n : ℕ) (k : RegionRun) → n < place → get_or told n k ≡ k → (e : ℕ) → IsWithin k.run e
      → IsToldByRuns list k.region e
  pub cause : (r e : ℕ) → IsToldByRuns list r e → IsToldByRuns told r e

pub merged_none : (told list : List RegionRun) → list ≡ [] → AreMerged told 0 list
merged_none told list none = subst (AreMerged told 0) (sym none) (record {
  proper = λ k h. absurd (let l = h.1 in omega arith);
  each = λ n k low is. absurd (omega (arith, low));
  cause = λ r e t. absurd (let l = t.1.1 in omega arith);
})

pub merged_more : (told : List RegionRun) (place : ℕ) (run : RegionRun) (old new : List RegionRun) → place < length told
    → get_or told place run ≡ run → SaysRun run old new → AreMerged told place old → AreMerged told (place + 1) new
merged_more told place run old new within is adds w = record {
  proper = adds.proper;
  each = λ n k low at e own. ⊎_elim
      (λ early. adds.kept k.region e (w.each n k early at e own))
      (λ late.
      let same : run ≡ k =
      sym is ∙ (ap (λ i. get_or told i run) (sym (let l = late in omega (arith, l, low)))
      ∙ (get_or_default told n run k (omega (arith, within, low)) ∙ at)) in
      subst (λ (y : RegionRun). IsToldByRuns new y.region e) same
      (adds.here e (subst (λ (y : RegionRun). IsWithin y.run e) (sym same) own)))
      (cases_lt n place);
  cause = λ r e t. ⊎_elim
      (w.cause r e)
      (λ here. (run, (place, within, is), here.0, here.1.0, here.1.1))
      (adds.cause r e t);
}

pub merged_all : (told list : List RegionRun) (place : ℕ) → length told ≤ place → AreMerged told place list
    → (growths : List Growth) → TellTheSame growths told → TellTheSame growths list
merged_all told list place past w growths same = record {
  proper = w.proper;
  each = λ r e t.
      let k = same.each r e t in
      subst (λ s. IsToldByRuns list s e) k.2
      (w.each k.1.0 k.0 (let l = k.1.1 in omega (arith, l, past)) k.1.2 e (k.3, k.4));
  cause = λ r e t. same.cause r e (w.cause r e t);
}
