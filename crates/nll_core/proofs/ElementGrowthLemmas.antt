-- An element comes into the set of a frontier, which is then again what is asked for there.
use Rattle.std.proofs.Common.{◌≡◌, ◌↔◌, ◌⊎◌, ℕ, ◌<◌, ◌≤◌, Bool, true, false, not, List, [], ◌∷◌, ◌++◌, Contains, length, get_or, set, refl, sym, ap, ◌∙◌, subst, inl, inr, ⊎_elim, arith}
use Rattle.std.specs.Prelude.{⊤}
use Rattle.std.proofs.lemmas.Bool.{cases_eq, false≢true, true≢false, false_from_ne_true}
use Rattle.std.proofs.lemmas.List.{get_or_default, get_or-set_other, get_or-set_same}
use Rattle.nll_sets.specs.ElementSet.{flag}
use Rattle.nll_problem.specs.Graph.{Graph, IsStep}
use Rattle.nll_problem.specs.declared.at.At.{At}
use Rattle.nll_problem.specs.declared.at.At.TheVariants.{All, Point}
use Rattle.nll_problem.proofs.AskLemmas.{asked_inside, asked_more, asked_weaker}
use Rattle.nll_problem.proofs.WalkLemmas.{reaches_first, reaches_starts, reaches_carries}
use Rattle.nll_core.specs.Search.{Search, AddsOfKind, Visits, Spreads, IsPending, IsIn, IsStepInside, LeadsTo}
use Rattle.nll_core.specs.Frontiers.{AppendsNew, IsAskedFrom, IsWithout, StepsOn}
use Rattle.nll_core.proofs.SearchLemmas.{adds_append, adds_weaker, contains_at, contains_from, leads_carries, leads_first}

-- ---- lists of what is new

-- one that got a new element
pub appends_one : (flags : List Bool) (e : ℕ) → e < length flags → flag flags e ≡ false → (before : List ℕ)
    → AppendsNew flags (set flags e true) before (before ++ e ∷ [])
appends_one flags e within new before = grind (arith, only, get_or-set_same, false≢true, get_or-set_other, cases_eq)
  where
    only : (x : ℕ) → Contains (e ∷ []) x → e ≡ x
    only x h = ap (λ k. get_or (e ∷ []) k x) (sym (zero_place h.0 h.1)) ∙ h.2
      where
        zero_place : (k : ℕ) → k < length (e ∷ []) → k ≡ 0
        zero_place k small = omega (arith, small)

-- one that got what a search listed
pub appends_found : (kind : ℕ → Type 0) (old new : Search) → old.list ≡ [] → AddsOfKind kind old new → (before : List ℕ)
    → AppendsNew old.reached new.reached before (before ++ new.list)
appends_found kind old new none a before =
    grind (arith, get_or, contains_at, start, false≢true, contains_from, get_or_default)
  where
    start : (k : ℕ) → length old.list ≤ k
    start k = omega (arith, ap length none)

-- what is new to a set with more room is new to the set
pub appends_widened : (old wide new : List Bool) (before after : List ℕ) → ((x : ℕ) → flag wide x ≡ flag old x)
    → AppendsNew wide new before after → AppendsNew old new before after
appends_widened old wide new before after same a = grind arith

-- ---- a search goes on from a new element

module _ (step : ℕ → ℕ → Type 0) (e : ℕ) (old first : Search) (none : old.list ≡ [])
    (closed : (x y : ℕ) → IsIn old.reached x → step x y → IsIn old.reached y ⊎ (y ≡ e))
    (a : Visits (λ x. x ≡ e) old first) where
  -- it alone is to be expanded
  pub pending_first : IsPending step first 0
  pending_first = grind arith

  module _ (new : Search) (s : Spreads step first new) where
    first_cause : (x : ℕ) → IsIn first.reached x → IsIn old.reached x ⊎ (x ≡ e)
    first_cause x h = grind arith

    pub steps_on : StepsOn step e old.reached new.reached
    steps_on = record {
      width = s.adds.width ∙ a.adds.width;
      kept = λ x h. s.adds.kept x (a.adds.kept x h);
      begun = s.adds.kept e (a.all e refl);
      cause = λ x h. ⊎_elim
          (λ early. (x, first_cause x early, leads_first step x))
          (λ w. let led = s.adds.cause w.0 w.1 w.2 in
          (led.0, first_cause led.0 led.1, subst (LeadsTo step led.0) w.3 led.2))
          (s.adds.only x h);
      closed = λ x y h k. s.closed x h y k;
    }

    pub steps_listed : (before : List ℕ) → AppendsNew old.reached new.reached before (before ++ new.list)
    steps_listed = appends_found (λ _. ⊤) old new none
        (adds_append (λ _. ⊤) old first new (adds_weaker _ (λ _. ⊤) (λ x h. tt) old first a.adds)
        (adds_weaker _ (λ _. ⊤) (λ x h. tt) first new s.adds))

-- ---- what is asked for once the element is there

module _ (g : Graph) (seen : List Bool) (e : ℕ) (here : IsIn seen e) (starts : List At) (old : List Bool)
    (exact : (x : ℕ) → IsIn old x ↔ IsAskedFrom g (IsWithout seen e) starts x) where
  old_asked : (x : ℕ) → IsIn old x → IsAskedFrom g (IsIn seen) starts x
  old_asked x h = let w = (exact x).0 h in
      (w.0, w.1, asked_weaker g (IsWithout seen e) w.0 (IsIn seen) (λ y t. t.0) x w.2)

  -- the element is new
  pub is_new : flag old e ≡ false
  is_new = false_from_ne_true _
      (λ h. let w = (exact e).0 h in (asked_inside g (IsWithout seen e) w.0 e w.2).1 refl)

  -- a step inside the set leads from what was reached to what was reached, or to the element
  pub old_closed : (x y : ℕ) → IsIn old x → IsStepInside g seen x y → IsIn old y ⊎ (y ≡ e)
  old_closed x y h step = ⊎_elim
      inr
      (λ other. let w = (exact x).0 h in
      inl ((exact y).1 (w.0, w.1, asked_more g (IsWithout seen e) w.0 x y w.2 step.0 (step.1, other))))
      (cases_eq y e)

  old_begun : (p : ℕ) → Contains starts (Point p) → IsIn seen p → IsIn old p ⊎ (p ≡ e)
  old_begun p start inside = ⊎_elim
      inr
      (λ other. inl ((exact p).1
      (Point p, start, reaches_first g (IsWithout seen e) p (inside, other))))
      (cases_eq p e)

  -- at all points the element comes, and nothing else
  pub taken_all : e < length old → Contains starts All → (x : ℕ)
      → IsIn (set old e true) x ↔ IsAskedFrom g (IsIn seen) starts x
  taken_all within every x = grind (arith, old_asked, get_or-set_other, cases_eq, get_or-set_same, asked_inside)

  module _ (nowhere : Contains starts All → ⊥) where
    -- where nothing leads to the element, all stays as it is
    pub left_alone : (Contains starts (Point e) → ⊥) → ((x : ℕ) → IsIn old x → IsStep g x e → ⊥) → (x : ℕ)
        → IsIn old x ↔ IsAskedFrom g (IsIn seen) starts x
    left_alone no_start no_step x = (old_asked x, back)
      where
        back : IsAskedFrom g (IsIn seen) starts x → IsIn old x
        back (All, every, inside) = absurd (nowhere every)
        back (Point p, start, way) = reaches_carries g (IsIn seen) p (IsIn old)
            (λ y z h step inside. ⊎_elim
            (λ i. i)
            (λ same. absurd (no_step y h (subst (IsStep g y) same step)))
            (old_closed y z h (step, inside)))
            x
            (⊎_elim
            (λ i. i)
            (λ same. absurd (no_start (subst (λ q. Contains starts (Point q)) same start)))
            (old_begun p start (reaches_starts g (IsIn seen) p x way)))
            way

    -- else walks went on through it
    pub gone_on : Contains starts (Point e) ⊎ ((x : ℕ) × IsIn old x × IsStep g x e) → (new : List Bool)
        → StepsOn (IsStepInside g seen) e old new → (x : ℕ) → IsIn new x ↔ IsAskedFrom g (IsIn seen) starts x
    gone_on led new s x = (
      λ h. let w = s.cause x h in
          leads_carries (IsStepInside g seen) (λ y. IsAskedFrom g (IsIn seen) starts y)
          (λ a b k t. (k.0, k.1, asked_more g (IsIn seen) k.0 a b k.2 t.0 t.1)) w.0 x
          (⊎_elim (old_asked w.0) (λ same. subst (λ y. IsAskedFrom g (IsIn seen) starts y) (sym same) asked_here) w.1)
          w.2,
      back,
    )
      where
        asked_here : IsAskedFrom g (IsIn seen) starts e
        asked_here = ⊎_elim
            (λ start. (Point e, start, reaches_first g (IsIn seen) e here))
            (λ w. let k = old_asked w.0 w.1 in
            (k.0, k.1, asked_more g (IsIn seen) k.0 w.0 e k.2 w.2 here))
            led

        back : IsAskedFrom g (IsIn seen) starts x → IsIn new x
        back (All, every, inside) = absurd (nowhere every)
        back (Point p, start, way) = reaches_carries g (IsIn seen) p (IsIn new)
            (λ y z h step inside. s.closed y z h (step, inside))
            x
            (⊎_elim (s.kept p) (λ same. subst (IsIn new) (sym same) s.begun)
            (old_begun p start (reaches_starts g (IsIn seen) p x way)))
            way

-- ---- a new element is put into the set

-- what was there is what is there without it
pub without_put : (old : List Bool) (e : ℕ) (new : List Bool) → new ≡ set old e true → true ≡ not (flag old e) → (x : ℕ)
    → IsIn old x ↔ IsWithout new e x
without_put old e new is put x = grind (arith, true≢false, get_or-set_other)
