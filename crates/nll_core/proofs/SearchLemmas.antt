-- What a search adds, step after step, and what it has reached when nothing is left to expand.
use Rattle.std.proofs.Common.{◌≡◌, ℕ, ◌+◌, ◌<◌, ◌≤◌, Bool, true, false, not, cond, List, [], ◌∷◌, ◌++◌, ◌↔◌, replicate, Contains, length, get_or, set, refl, sym, ap, ◌∙◌, subst, inl, inr, ⊎_elim, arith, length-append}
use Rattle.std.specs.Prelude.{⊤}
use Rattle.std.proofs.lemmas.Bool.{cases_lt, cases_eq, false≢true, false_from_ne_true}
use Rattle.std.proofs.lemmas.List.{get_or-set_other, get_or-set_same, set-get_or, length-set, get_or_append_left, get_or_at, get_or_past, get_or_default, get_or-replicate, length-replicate}
use Rattle.std.proofs.lemmas.List.Sums.{sum_by-set}
use Rattle.nll_sets.specs.ElementSet.{flag}
use Rattle.nll_problem.specs.Graph.{Graph, element_count, IsNext, IsReturn, IsStep, IsSound}
use Rattle.nll_core.specs.Search.{Search, LeadsTo, IsIn, Within, IsStepInside, missing, AddsOfKind, Visits, IsPending, Spreads, IsFound, IsCovered, IsLedTo}
use Rattle.nll_problem.proofs.WalkLemmas.{walk_more, walk_carries}

-- ---- flags and lists

-- an element of a set is below the length of its flags
pub flag_within : (flags : List Bool) (x : ℕ) → flag flags x ≡ true → x < length flags
flag_within flags x h =
    ⊎_elim (λ below. below) (λ past. absurd (false≢true (sym (get_or_past flags x false past) ∙ h)))
    (cases_lt x (length flags))

-- no element is in the empty set
pub none_in_empty : (n x : ℕ) → flag (replicate n false) x ≡ true → ⊥
none_in_empty n x h =
    let within : x < n = rw (length-replicate n false) at (flag_within (replicate n false) x h) in
    false≢true (sym (get_or-replicate n x false false within) ∙ h)

-- what stands at the place where a list has x
pub contains_at : (xs : List ℕ) (x : ℕ) (h : Contains xs x) → get_or xs h.0 0 ≡ x
contains_at xs x h = get_or_default xs h.0 0 x h.1 ∙ h.2

-- what holds of the elements of a list, place by place, holds of each that it contains
pub covers_contained : (holds : ℕ → Type 0) (xs : List ℕ) → ((k : ℕ) → k < length xs → holds (get_or xs k 0)) → (x : ℕ)
    → Contains xs x → holds x
covers_contained holds xs each x h = subst holds (contains_at xs x h) (each h.0 h.1)

-- what stands at a place of a list is contained
pub contains_from : (xs : List ℕ) (x k : ℕ) → k < length xs → get_or xs k 0 ≡ x → Contains xs x
contains_from xs x k within is = (k, within, get_or_default xs k x 0 within ∙ is)

abbrev one_if_not : Bool → ℕ
one_if_not b = cond (not b) 1 0

-- one element more in a set is one less that is missing
pub missing_one : (flags : List Bool) (e : ℕ) → e < length flags → flag flags e ≡ false
    → missing (set flags e true) + 1 ≡ missing flags
missing_one flags e within new = grind (arith, sum_by-set)

-- ---- what is added

module _ (kind : ℕ → Type 0) where
  -- nothing
  pub adds_none : (s : Search) → AddsOfKind kind s s
  adds_none s = grind arith

  -- some, and then some more
  pub adds_append : (old middle new : Search) → AddsOfKind kind old middle → AddsOfKind kind middle new
      → AddsOfKind kind old new
  adds_append old middle new p q = grind (arith, false_from_ne_true, false≢true, cases_lt, get_or)

  -- one element that isn't in the set yet
  pub adds_one : (s : Search) (e : ℕ) → e < length s.reached → flag s.reached e ≡ false → kind e
      → AddsOfKind kind s (record { reached = set s.reached e true; list = s.list ++ e ∷ [] })
  adds_one s e within new h =
      grind (
        arith,
        length-append,
        get_or,
        get_or_at,
        length-set,
        get_or-set_same,
        get_or-set_other,
        cases_eq,
        get_or_append_left,
        missing_one,
      )

-- what is of a kind is of any larger kind
pub adds_weaker : (kind larger : ℕ → Type 0) → ((x : ℕ) → kind x → larger x) → (old new : Search)
    → AddsOfKind kind old new
    → AddsOfKind larger old new
adds_weaker kind larger has old new p = grind arith

-- what was new was visited
pub visits_one : (s : Search) (e : ℕ) → e < length s.reached → flag s.reached e ≡ false
    → Visits (λ x. x ≡ e) s (record { reached = set s.reached e true; list = s.list ++ e ∷ [] })
visits_one s e within new = record {
  adds = adds_one (λ x. x ≡ e) s e within new refl;
  all = λ x is. subst (IsIn (set s.reached e true)) (sym is) (get_or-set_same s.reached e true false within);
}

-- and what wasn't
pub visits_again : (s : Search) (e : ℕ) → flag s.reached e ≡ true
    → Visits (λ x. x ≡ e) s (record { reached = set s.reached e true; list = s.list })
visits_again s e old =
    let same : set s.reached e true ≡ s.reached =
    subst (λ b. set s.reached e b ≡ s.reached) old (set-get_or s.reached e false) in
    subst (λ flags. Visits (λ x. x ≡ e) s (record { reached = flags; list = s.list })) (sym same)
    (record { adds = adds_none (λ x. x ≡ e) s; all = λ x is. subst (IsIn s.reached) (sym is) old })

-- ---- walks

module _ (step : ℕ → ℕ → Type 0) where
  pub leads_first : (x : ℕ) → LeadsTo step x x
  leads_first x = ([], (tt, refl))

  pub leads_more : (x y z : ℕ) → LeadsTo step x y → step y z → LeadsTo step x z
  leads_more x y z h goes = (h.0 ++ z ∷ [], walk_more step (λ _. ⊤) x h.0 y z h.1 goes tt)

  -- what holds of the first and goes along each step holds of the last
  pub leads_carries : (holds : ℕ → Type 0) → ((x y : ℕ) → holds x → step x y → holds y) → (x y : ℕ) → holds x
      → LeadsTo step x y → holds y
  leads_carries holds along x y here h = walk_carries step (λ _. ⊤) holds (λ a b k s _. along a b k s) x h.0 y here h.1

-- ---- what expanding one element of a graph adds

-- an element past the points has no step
pub no_step_past : (g : Graph) → IsSound g → (e : ℕ) → g.points ≤ e → (x : ℕ) → IsStep g e x → ⊥
no_step_past g s e past x = ⊎_elim
    (λ h. let range = s.edges_in_range e x h in omega (arith, range.0))
    (λ h. let range = s.returns_in_range e h.0 in omega arith)

module _ (g : Graph) (set : List Bool) (e : ℕ) where
  -- of an element past the points nothing is to be visited
  pub past_visits : IsSound g → g.points ≤ e → (s : Search) → Visits (IsStepInside g set e) s s
  past_visits sound past s = record {
    adds = adds_none _ s;
    all = λ x step. absurd (no_step_past g sound e past x step.0);
  }

  module _ (next : List ℕ) (each : (q : ℕ) → Contains next q ↔ IsNext g e q) where
    next_adds : (old new : Search) → AddsOfKind (Within set (Contains next)) old new
        → AddsOfKind (IsStepInside g set e) old new
    next_adds old new a = adds_weaker _ _ (λ x h. (inl ((each x).0 h.0), h.1)) old new a

    -- where it is no return point, its successors are visited
    pub next_visits : (old new : Search) → (IsReturn g e → ⊥) → Visits (Within set (Contains next)) old new
        → Visits (IsStepInside g set e) old new
    next_visits old new no_return v = record {
      adds = next_adds old new v.adds;
      all = λ x step. ⊎_elim (λ h. v.all x ((each x).1 h, step.1)) (λ h. absurd (no_return h.0)) step.0;
    }

    -- where it is one, the ends too
    pub ends_visits : (from to : ℕ) → from ≡ g.points → to ≡ element_count g → IsReturn g e → (old middle new : Search)
        → Visits (Within set (Contains next)) old middle → Visits (Within set (λ x. (from ≤ x) × (x < to))) middle new
        → Visits (IsStepInside g set e) old new
    ends_visits from to starts ends returns old middle new v w = record {
      adds = adds_append _ old middle new (next_adds old middle v.adds)
          (adds_weaker _ _ (λ x h. (inr (returns, (omega (arith, h.0), omega (arith, h.0))), h.1)) middle new w.adds);
      all = λ x step. ⊎_elim
          (λ h. w.adds.kept x (v.all x ((each x).1 h, step.1)))
          (λ h. w.all x ((omega (arith, h.1), omega (arith, h.1)), step.1))
          step.0;
    }

-- ---- the loop that expands the list from a place on

-- What was added is led to, and the elements of the list from `at` on are still to be expanded.
pub record Spreading (step : ℕ → ℕ → Type 0) (old new : Search) (at : ℕ) : Type 0 where
  pub adds : AddsOfKind (IsLedTo step old.reached) old new
  pub sound : (x : ℕ) → IsIn new.reached x → IsLedTo step old.reached x
  pub pending : IsPending step new at

module _ (step : ℕ → ℕ → Type 0) (old : Search) where
  pub spreading_first : (from : ℕ) → IsPending step old from → Spreading step old old from
  spreading_first from pending = grind (arith, adds_none, leads_first)

  pub spreading_more : (middle new : Search) (at e : ℕ) → at < length middle.list → get_or middle.list at 0 ≡ e
      → Spreading step old middle at → Visits (step e) middle new → Spreading step old new (at + 1)
  spreading_more middle new at e within is s v =
      let led : IsLedTo step old.reached e =
      subst (IsLedTo step old.reached) is (s.sound _ (s.pending.listed at (omega arith) within)) in
      let b : AddsOfKind (IsLedTo step old.reached) middle new =
      adds_weaker _ _ (λ x h. (led.0, led.1, leads_more step led.0 e x led.2 h)) middle new v.adds in
      record {
        adds = adds_append (IsLedTo step old.reached) old middle new s.adds b;
        sound = λ x h. ⊎_elim (s.sound x) (λ w. subst (IsLedTo step old.reached) w.3 (b.cause w.0 w.1 w.2))
            (b.only x h);
        pending = record {
          within = omega (arith, b.longer);
          listed =
              λ k l h. ⊎_elim (λ m. subst (IsIn new.reached) (sym (b.front k m))
              (b.kept (get_or middle.list k 0) (s.pending.listed k (omega (arith, l)) m))) (λ m. b.inside k m h)
              (cases_lt k (length middle.list));
          others = λ x h. ⊎_elim
              (λ before. ⊎_elim
              (λ w. ⊎_elim
              (λ same. inr (subst (IsCovered step new.reached)
              (sym is ∙ (ap (λ k. get_or middle.list k 0) (sym same) ∙ w.3)) v.all))
              (λ other. inl (w.0, omega (arith, w.1), omega (arith, w.2, b.longer), b.front w.0 w.2 ∙ w.3))
              (cases_eq w.0 at))
              (λ c. inr (λ y r. b.kept y (c y r)))
              (s.pending.others x before))
              (λ w. inl (w.0, omega (arith, w.1, s.pending.within, within), w.2, w.3))
              (b.only x h);
        };
      }

  -- where the list is at its end all is covered
  pub spreading_done : (new : Search) (at : ℕ) → length new.list ≤ at → Spreading step old new at → Spreads step old new
  spreading_done new at done s = grind arith

-- What the first visit puts into an empty search is all still to be expanded.
module _ (step : ℕ → ℕ → Type 0) (at width : ℕ) (first : Search)
    (a : Visits (λ x. x ≡ at) (record { reached = replicate width false; list = [] }) first) where
  pub begun : IsPending step first 0
  begun = grind (arith, none_in_empty)

  -- Then it spreads.
  module _ (new : Search) (s : Spreads step first new) where
    is_start : (x : ℕ) → IsIn first.reached x → x ≡ at
    is_start x h = grind (arith, none_in_empty)

    -- the set is what walks reach
    pub found : IsFound step at new
    found x = (
      λ h. ⊎_elim
          (λ early. subst (LeadsTo step at) (sym (is_start x early)) (leads_first step at))
          (λ w. let led = s.adds.cause w.0 w.1 w.2 in
          subst (LeadsTo step at) w.3 (subst (λ v. LeadsTo step v (get_or new.list w.0 0))
          (is_start led.0 led.1) led.2))
          (s.adds.only x h),
      λ h. leads_carries step (IsIn new.reached) (λ y z t r. s.closed y t z r) at x (s.adds.kept at (a.all at refl)) h,
    )
