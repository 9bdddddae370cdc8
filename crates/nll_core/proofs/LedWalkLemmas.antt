-- What walks from constraints have reached at their end.
use Rattle.std.proofs.Common.{◌≡◌, ◌⊎◌, ◌↔◌, ℕ, ◌+◌, ◌-◌, ◌<◌, ◌≤◌, Bool, true, false, List, [], Contains, length, get_or, refl, sym, ap, ◌∙◌, subst, inl, inr, ⊎_elim, arith, zero, suc}
use Rattle.std.proofs.lemmas.Bool.{cases_lt, cases_eq, false≢true}
use Rattle.std.proofs.lemmas.List.{get_or_default}
use Rattle.nll_sets.specs.ElementSet.{flag}
use Rattle.nll_problem.specs.Graph.{Graph, element_count, IsNext, IsStep, IsSound, IsEnd}
use Rattle.nll_problem.specs.Walks.{Reaches}
use Rattle.nll_core.specs.Search.{IsIn}
use Rattle.nll_sets.specs.Runs.{IsInRuns}
use Rattle.nll_core.specs.Lines.{IsJump}
use Rattle.nll_core.specs.Walking.{IsLineClosed, GrowsByRuns, IsLedTo, IsSpread, FillsFrom, constraint_at, no_constraint, PointsAscend, IsLedFrom, AreLedFrom, NoneInside, point_of, AreAskedOf, AreAtPoints, IsPointOf}
use Rattle.nll_sets.specs.declared.run.Run.{Run}
use Rattle.nll_problem.specs.declared.constraint.Constraint.{Constraint}
use Rattle.nll_problem.specs.At.{IsAmong, at_rank}
use Rattle.nll_problem.specs.Solution.{IsAskedIn}
use Rattle.nll_problem.specs.declared.at.At.{At}
use Rattle.nll_problem.specs.declared.at.At.TheVariants.{All, Point}
use Rattle.nll_problem.proofs.AskLemmas.{asked_inside}
use Rattle.nll_problem.proofs.WalkLemmas.{reaches_more, reaches_starts, reaches_carries, reaches_inside}
use Rattle.nll_core.proofs.SearchLemmas.{flag_within}
use Rattle.nll_core.proofs.WalkingLemmas.{grows_append, grows_weaker, line_closed, reaches_append}

-- ---- lists of constraints

-- what stands at a place of a list is contained
pub contained_at : (pair : List Constraint) (k : ℕ) → k < length pair → Contains pair (constraint_at pair k)
contained_at pair k within = (k, within, get_or_default pair k (constraint_at pair k) no_constraint within)

-- what holds of the constraints of a list, place by place, holds of each that it contains
pub each_contained : (holds : Constraint → Type 0) (pair : List Constraint)
    → ((k : ℕ) → k < length pair → holds (constraint_at pair k)) → (c : Constraint) → Contains pair c → holds c
each_contained holds pair each c (k, within, is) =
    subst holds (get_or_default pair k no_constraint c within ∙ is) (each k within)

-- ---- what is entered for constraints

module _ (g : Graph) (sub : List Bool) where
  -- along a line inside `sub` all from a reached point on is reached
  along : (reached : List Bool) → IsLineClosed g sub reached → (p k : ℕ) → IsIn reached p
      → ((x : ℕ) → p ≤ x → x < p + k → IsNext g x (x + 1)) → ((x : ℕ) → p ≤ x → x ≤ p + k → IsIn sub x)
      → IsIn reached (p + k)
  along reached closed p zero here line inside = subst (IsIn reached) (omega arith) here
  along reached closed p (suc k) here line inside =
      let before =
      along reached closed p k here (λ x a b. line x a (omega (arith, b)))
      (λ x a b. inside x a (omega (arith, b))) in
      let same : p + k + 1 ≡ p + suc k = omega arith in
      subst (IsIn reached) same (closed (p + k) before (line (p + k) (omega arith) (omega arith))
      (inside (p + k + 1) (omega arith) (omega arith)))

  -- what an entry settles
  pub settled_entry : (reached : List Bool) (point last : ℕ) → IsLineClosed g sub reached → IsIn reached point
      → ((x : ℕ) → point ≤ x → x < last → IsNext g x (x + 1)) → ((x : ℕ) → point ≤ x → x ≤ last → IsIn sub x) → (x : ℕ)
      → point ≤ x → x ≤ last → IsIn reached x
  settled_entry reached point last closed here line inside x a b =
      let same : point + (x - point) ≡ x = omega (arith, a) in
      subst (IsIn reached) same (along reached closed point (x - point) here
      (λ y c d. line y c (omega (arith, b, d, same))) (λ y c d. inside y c (omega (arith, b, d, same))))

  -- The points of the constraints before `place` are settled.
  pub record Entering (pair : List Constraint) (old now : List Bool) (before after : List Run)
      (place : ℕ) : Type 0 where
    pub grows : GrowsByRuns g sub (IsLedFrom g sub pair) old now before after
    pub closed : IsLineClosed g sub now
    pub covers : (k : ℕ) → k < place → IsIn sub (point_of (constraint_at pair k))
        → IsIn now (point_of (constraint_at pair k))
    pub within : place ≤ length pair

  pub entering_more : (pair : List Constraint) (old now new : List Bool) (before then next : List Run)
      (place point least place' : ℕ) → PointsAscend pair → point ≡ point_of (constraint_at pair place)
      → place < length pair
      → Entering pair old now before then place → GrowsByRuns g sub (Reaches g (IsIn sub) point) now new then next
      → ((x : ℕ) → point ≤ x → x < least → IsIn sub x → IsIn new x) → (IsIn sub point → IsIn new point)
      → place' ≤ length pair → ((k : ℕ) → place + 1 ≤ k → k < place' → point_of (constraint_at pair k) < least)
      → Entering pair old new before next place'
  entering_more pair old now new before
      then next place point least place' ascending is within e p settled own bound passed = record {
        grows = grows_append g sub (IsLedFrom g sub pair) _ _ _ _ _ _ e.grows
            (grows_weaker g sub _ (IsLedFrom g sub pair)
            (λ x way. (
              constraint_at pair place,
              contained_at pair place within,
              subst (λ y. Reaches g (IsIn sub) y x) is way,
            )) _ _ _ _ p);
        closed = line_closed g sub (Reaches g (IsIn sub) point) _ _ _ _ p e.closed;
        covers = λ k h s. ⊎_elim
            (λ front. p.kept _ (e.covers k front s))
            (λ other. ⊎_elim
            (λ here. let same : point_of (constraint_at pair k) ≡ point = ap (λ i. point_of (constraint_at pair i)) here
            ∙ sym is in subst (IsIn new) (sym same) (own (subst (IsIn sub) same s)))
            (λ past. settled (point_of (constraint_at pair k))
            (omega (arith, is, ascending place k (omega (arith, other)) (omega (arith, h, bound))))
            (passed k (omega (arith, other, past)) h) s)
            (cases_eq k place))
            (cases_lt k place);
        within = bound;
      }

  -- constraints whose points aren't in `sub` are passed over
  pub entering_skip : (pair : List Constraint) (old now : List Bool) (before then : List Run) (place at : ℕ)
      → at ≤ length pair → NoneInside sub pair place at → Entering pair old now before then place
      → Entering pair old now before then at
  entering_skip pair old now before then place at bound none e = grind (arith, false≢true, cases_lt)

  -- ---- the whole

  module _ (sound : IsSound g) (pair : List Constraint) (old middle new : List Bool) (list : List Run)
      (all_runs : List Run) (ends : Bool) (nothing : (x : ℕ) → flag old x ≡ false)
      (p : GrowsByRuns g sub (IsLedFrom g sub pair) old middle [] list)
      (covers : (c : Constraint) → Contains pair c → IsIn sub (point_of c) → IsIn middle (point_of c))
      (s : IsSpread g sub middle new list all_runs ends) where
    entered : (x : ℕ) → IsIn middle x → IsLedFrom g sub pair x
    entered x h = ⊎_elim (λ o. absurd (false≢true (sym (nothing x) ∙ o))) (λ from. from) (p.cause x h)

    led : (x : ℕ) → IsIn new x → IsLedFrom g sub pair x
    led x h = ⊎_elim
        (entered x)
        (λ w. let from = entered w.0 w.1 in (from.0, from.1, reaches_append g sub (point_of from.0) w.0 x from.2 w.2))
        (s.grows.cause x h)

    all_listed : (x : ℕ) → IsIn new x → IsInRuns all_runs x
    all_listed x h = grind (arith, false≢true)

    closed : IsLineClosed g sub new
    closed =
        line_closed g sub (IsLedTo g sub middle) _ _ _ _ s.grows
        (line_closed g sub (IsLedFrom g sub pair) _ _ _ _ p (λ x h. absurd (false≢true (sym (nothing x) ∙ h))))

    from_return : (y x : ℕ) → IsIn new y → IsJump g y g.points → IsEnd g x → IsIn sub x → IsLedFrom g sub pair x
    from_return y x h (inl next) is_end in_sub = absurd (omega (arith, (sound.edges_in_range y g.points next.0).1))
    from_return y x h (inr back) is_end in_sub = let from = led y h in
        (from.0, from.1, reaches_more g (IsIn sub) (point_of from.0) y x from.2 (inr (back.0, is_end)) in_sub)

    along_edge : (y z : ℕ) → IsIn new y → IsNext g y z → IsIn sub z → IsIn new z
    along_edge y z h next in_sub = ⊎_elim
        (λ same. subst (IsIn new) (sym same) (closed y h (subst (IsNext g y) same next) (subst (IsIn sub) same in_sub)))
        (λ other. (s.followed y (all_listed y h)).0 z (inl (next, other)) (sound.edges_in_range y z next).1 in_sub)
        (cases_eq z (y + 1))

    go_on : (y z : ℕ) → IsIn new y ⊎ (IsEnd g y × (ends ≡ true)) → IsStep g y z → IsIn sub z
        → IsIn new z ⊎ (IsEnd g z × (ends ≡ true))
    go_on y z (inl h) (inl next) in_sub = inl (along_edge y z h next in_sub)
    go_on y z (inl h) (inr back) in_sub = inr (back.1, (s.followed y (all_listed y h)).1 (inr (back.0, refl)))
    go_on y z (inr h) (inl next) in_sub = absurd (omega (arith, h.0.0, (sound.edges_in_range y z next).0))
    go_on y z (inr h) (inr back) in_sub = absurd (omega (arith, h.0.0, sound.returns_in_range y back.0))

    complete : (x : ℕ) → IsLedFrom g sub pair x → IsIn new x ⊎ (IsEnd g x × (ends ≡ true))
    complete x (c, listed, way) =
        reaches_carries g (IsIn sub) (point_of c) (λ y. IsIn new y ⊎ (IsEnd g y × (ends ≡ true))) go_on x
        (inl (s.grows.kept (point_of c) (covers c listed (reaches_starts g (IsIn sub) (point_of c) x way)))) way

    -- where no return point is reached, that is all
    pub reached_points : ends ≡ false → AreLedFrom g sub pair new
    reached_points none x = (led x, λ h. ⊎_elim (λ i. i) (λ e. absurd (false≢true (sym none ∙ e.1))) (complete x h))

    -- else the ends in `sub` come to it
    pub reached_ends : (all : List Bool) → ends ≡ true → length sub ≡ element_count g → FillsFrom g.points sub new all
        → AreLedFrom g sub pair all
    reached_ends all some wide f x = (
      λ h. ⊎_elim
          (led x)
          (λ (past, in_sub). let w = s.ends_from some in
          from_return w.0 x w.1 w.2 (past, omega (arith, flag_within sub x in_sub, wide)) in_sub)
          (f.cause x h),
      λ h. ⊎_elim (f.kept x) (λ e. f.filled x e.0.0 (reaches_inside g (IsIn sub) (point_of h.0) x h.2)) (complete x h),
    )

  module _ (pair : List Constraint) (old middle : List Bool) (list : List Run) (nothing : (x : ℕ) → flag old x ≡ false)
      (p : GrowsByRuns g sub (IsLedFrom g sub pair) old middle [] list) where
    pub start_listed : (x : ℕ) → IsInRuns list x ↔ IsIn middle x
    start_listed x = grind (arith, false≢true)

    pub start_inside : (x : ℕ) → IsIn middle x → IsIn sub x
    start_inside x h =
        ⊎_elim (λ o. absurd (false≢true (sym (nothing x) ∙ o)))
        (λ from. reaches_inside g (IsIn sub) (point_of from.0) x from.2) (p.cause x h)

-- ---- what constraints ask for

-- what isn't all points is a point
among_point : (g : Graph) (place : At) → IsAmong g.points place → (place ≡ All → ⊥) → IsPointOf g place
among_point g All within other = other refl
among_point g (Point p) within other = within

-- its number is below that of points
pub point_below : (g : Graph) (place : At) → IsPointOf g place → at_rank place - 1 < g.points
point_below g All never = absurd never
point_below g (Point p) within = omega (arith, within)

-- where none holds at all points, the constraints are at points
pub among_points : (g : Graph) (pair : List Constraint) → ((c : Constraint) → Contains pair c → IsAmong g.points c.at)
    → ((c : Constraint) → Contains pair c → c.at ≡ All → ⊥) → AreAtPoints g pair
among_points g pair among none c h = among_point g c.at (among c h) (none c h)

-- at a point, what is asked for is what a walk leads to
point_asks : (g : Graph) (sub : List Bool) (place : At) (x : ℕ) → IsPointOf g place
    → Reaches g (IsIn sub) (at_rank place - 1) x ↔ IsAskedIn g (IsIn sub) place x
point_asks g sub All x never = absurd never
point_asks g sub (Point p) x within =
    let same : p + 1 - 1 ≡ p = omega arith in
    (subst (λ q. Reaches g (IsIn sub) q x) same, subst (λ q. Reaches g (IsIn sub) q x) (sym same))

-- what walks lead to from points of constraints is what these ask for
pub led_asks : (g : Graph) (sub : List Bool) (pair : List Constraint) (reached : List Bool) → AreAtPoints g pair
    → AreLedFrom g sub pair reached → AreAskedOf g sub pair reached
led_asks g sub pair reached points led x = (
  λ h. let w = (led x).0 h in (w.0, w.1, (point_asks g sub w.0.at x (points w.0 w.1)).0 w.2),
  λ w. (led x).1 (w.0, w.1, (point_asks g sub w.0.at x (points w.0 w.1)).1 w.2),
)

-- a constraint at all points asks for the whole set, and no other asks for more
pub whole_asked : (g : Graph) (sub : List Bool) (pair : List Constraint)
    → (c : Constraint) × Contains pair c × (c.at ≡ All) → AreAskedOf g sub pair sub
whole_asked g sub pair every x = grind (arith, asked_inside)

-- the first constraint holds at all points where any does
rank_of : (place : At) → at_rank place ≤ 0 → place ≡ All
rank_of All low = refl
rank_of (Point p) low = absurd (omega (arith, low))

pub first_everywhere : (pair : List Constraint) (past : Constraint) → PointsAscend pair → (c : Constraint)
    → Contains pair c → c.at ≡ All → (get_or pair 0 past).at ≡ All
first_everywhere pair past ascending c (k, within, there) every =
    let here : constraint_at pair 0 ≡ get_or pair 0 past =
    get_or_default pair 0 no_constraint past (omega (arith, within)) in
    let other : constraint_at pair k ≡ c = get_or_default pair k no_constraint c within ∙ there in
    let low = ascending 0 k (omega arith) within in
    rank_of _ (omega (
      arith,
      low,
      ap (λ (d : Constraint). at_rank d.at) here,
      ap (λ (d : Constraint). at_rank d.at) other,
      ap at_rank every,
    ))
