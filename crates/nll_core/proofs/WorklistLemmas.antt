-- The worklist of regions: what visits keep, and that nothing is left at the end of a sweep that changed nothing.
use Rattle.std.proofs.Common.{◌≡◌, ◌≢◌, ℕ, ◌+◌, ◌-◌, ◌<◌, ◌≤◌, Bool, true, false, eqb, Result, Ok, Err, IfOk, OnOk, ◌||◌, List, Contains, AllPairs, IsTrue, length, get_or, set, replicate, drop, slice_range, refl, sym, ap, ◌∙◌, subst, inl, ⊎_elim, arith, length-take, length-drop, get_or-take, get_or-drop}
use Rattle.std.proofs.lemmas.Bool.{cases_lt, cases_eq, false≢true, true≢false, cases_Bool, eqb-true, eqb-false}
use Rattle.std.proofs.lemmas.List.{get_or-set_other, get_or-set_same, length-set, get_or_past, set-get_or, get_or_default, get_or-replicate}
use Rattle.nll_sets.specs.ElementSet.{flag}
use Rattle.nll_sets.specs.Runs.{first_of, last_of, IsInRuns, IsWithin}
use Rattle.nll_sets.specs.declared.run.Run.{Run}
use Rattle.nll_sets.proofs.RunSetLemmas.{same_flags}
use Rattle.nll_problem.specs.ConstraintIndex.{IsLower}
use Rattle.nll_problem.specs.Problem.{Problem, IsSound}
use Rattle.nll_problem.specs.At.{at_rank}
use Rattle.nll_problem.specs.Solution.{IsAskedIn}
use Rattle.nll_problem.specs.declared.constraint.Constraint.{Constraint}
use Rattle.nll_problem.proofs.AskLemmas.{asked_inside, asked_weaker}
use Rattle.nll_core.specs.Search.{IsIn}
use Rattle.nll_core.specs.Values.{set_of, IsHeld, IsShaped}
use Rattle.nll_core.specs.Growing.{Gains, Tells, StaysBelow, IsMet, MeetsEach}
use Rattle.nll_core.specs.Walking.{no_constraint, constraint_at, PointsAscend, IsAskedOf}
use Rattle.nll_core.specs.Worklist.{IsTracked, IsCleared, Advances, Visits, Turns, AreOfPair, AreOfOneSup, SupsAscend}
use Rattle.nll_core.proofs.GrowingLemmas.{tells_append, gains_append, gains_weaker}
use Rattle.nll_core.proofs.SolverLemmas.{shaped_gains}
use Rattle.nll_core.proofs.LedWalkLemmas.{contained_at, each_contained}

neither : (x y : Bool) → (x || y) ≡ false → (x ≡ false) × (y ≡ false)
neither true y h = absurd (true≢false h)
neither false y h = (refl, h)

or_true : (x y : Bool) → y ≡ true → (x || y) ≡ true
or_true true y h = refl
or_true false y h = h

or_left : (x y : Bool) → x ≡ true → (x || y) ≡ true
or_left true y h = refl
or_left false y h = absurd (false≢true h)

or_false : (x y : Bool) → y ≡ false → (x || y) ≡ x
or_false true y h = refl
or_false false y h = h

same_bool : (p q : Bool) → (p ≡ true → q ≡ true) → (q ≡ true → p ≡ true) → p ≡ q
same_bool true q f g = sym (f refl)
same_bool false true f g = g refl
same_bool false false f g = refl

set_flag : (flags : List Bool) (i x : ℕ) (b : Bool) → flag flags x ≡ true → (x ≡ i → b ≡ true)
    → flag (set flags i b) x ≡ true
set_flag flags i x b h own =
    grind (arith, get_or-set_same, false≢true, get_or_past, cases_lt, get_or-set_other, cases_eq)

module _ (q : Problem) where
  pub advances_append : (old middle new : List (List Bool)) (x y : Bool) → Advances q old middle x
      → Advances q middle new y → Advances q old new (x || y)
  advances_append old middle new x y p r = grind (arith, tells_append)

  module _ (sub : ℕ) where
    pub visits_append : (old middle new : List (List Bool)) (a b c : List Bool) (x y : Bool)
        → Visits q sub old middle a b x → Visits q sub middle new b c y → Visits q sub old new a c (x || y)
    visits_append old middle new a b c x y p r = grind (arith, advances_append, neither)

    -- a constraint of the region that is met stays so
    pub met_stays : (c : Constraint) (old new : List (List Bool)) → set_of new c.sub ≡ set_of old c.sub
        → ((r e : ℕ) → IsHeld old r e → IsHeld new r e) → IsMet q old c → IsMet q new c
    met_stays c old new same kept met =
        λ e asked. kept c.sup e (met e (subst
        (λ flags. IsAskedIn q.graph (λ x. flag flags x ≡ true) c.at e) same asked))

    -- what the constraints of the region with another ask is put in, and the other region is marked if it gets
    -- something
    module _ (sup : ℕ) (pair : List Constraint) (old new : List (List Bool)) (before : List Bool) (changed : Bool)
        (of_pair : AreOfPair q sub sup pair) (apart : sup ≢ sub) (within : sup < length before) (s : IsShaped q old)
        (g : Gains (λ r e. (r ≡ sup) × IsAskedOf q.graph (set_of old sub) pair e) old new)
        (asks : (e : ℕ) → IsAskedOf q.graph (set_of old sub) pair e → IsHeld new sup e)
        (t : Tells changed old new) where
      abbrev after : List Bool
      after = set before sup (flag before sup || changed)

      other_set : (r : ℕ) → r ≢ sup → set_of new r ≡ set_of old r
      other_set r other =
          same_flags (set_of new r) (set_of old r) (g.widths r)
          (λ e. same_bool _ _ (λ h. ⊎_elim (λ o. o) (λ k. absurd (other k.0)) (g.cause r e h)) (g.kept r e))

      -- what the constraints ask is in each assignment that satisfies the problem and has all of the values
      below_pair : StaysBelow q old new
      below_pair = λ assignment sat under r e h. ⊎_elim
          (under r e)
          (λ (is, (c, listed, way)).
          let own = of_pair c listed in
          let inside : (x : ℕ) → IsIn (set_of old sub) x
          → IsTrue (assignment c.sub x) = λ x k. subst (λ b. IsTrue (assignment b x)) (sym own.1) (under sub x k) in
          subst (λ x. IsTrue (assignment x e)) (own.2 ∙ sym is)
          (sat.each c own.0 e (asked_weaker q.graph (IsIn (set_of old sub)) c.at _ inside e way)))
          (g.cause r e h)

      pub visits_pair : Visits q sub old new before after changed
      visits_pair =
          grind (
            arith,
            shaped_gains,
            below_pair,
            length-set,
            other_set,
            get_or-set_same,
            or_true,
            cases_Bool,
            cases_eq,
            set_flag,
            or_left,
            or_false,
            set-get_or,
          )

      pub met_pair : (c : Constraint) → Contains pair c → IsMet q new c
      met_pair c listed =
          let own = of_pair c listed in
          let same : set_of new c.sub ≡ set_of old sub = ap (set_of new) own.1 ∙ other_set sub (λ e. apart (sym e)) in
          λ e asked. subst (λ r. IsHeld new r e) (sym own.2)
          (asks e (c, listed, subst (λ flags. IsAskedIn q.graph (λ x. flag flags x ≡ true) c.at e) same asked))

    -- a constraint is met where the region that it fills has all of the region that it reads
    pub met_within : (c : Constraint) (values : List (List Bool))
        → ((e : ℕ) → IsHeld values c.sub e → IsHeld values c.sup e) → IsMet q values c
    met_within c values within = λ e asked. within e (asked_inside q.graph (IsHeld values c.sub) c.at e asked)

    -- a constraint of a region with itself is always met
    pub met_self : (c : Constraint) (values : List (List Bool)) → c.sup ≡ c.sub → IsMet q values c
    met_self c values same =
        λ e asked. subst (λ r. IsHeld values r e) (sym same) (asked_inside q.graph (IsHeld values c.sub) c.at e asked)

  -- ---- the constraints that read a region, pair by pair

  -- The constraints before `place` are met.
  pub record Visiting (sub : ℕ) (constraints : List Constraint) (old now : List (List Bool)) (before after : List Bool)
      (changed : Bool) (place : ℕ) : Type 0 where
    pub visits : Visits q sub old now before after changed
    pub met : (k : ℕ) → k < place → IsMet q now (constraint_at constraints k)
    pub within : place ≤ length constraints

  pub visiting_more : (sub : ℕ) (constraints : List Constraint) (old now next : List (List Bool)) (a b c : List Bool)
      (x y : Bool) (place end : ℕ) → ((k : Constraint) → Contains constraints k → k.sub ≡ sub)
      → end ≤ length constraints
      → Visiting sub constraints old now a b x place → Visits q sub now next b c y
      → ((k : ℕ) → place ≤ k → k < end → IsMet q next (constraint_at constraints k))
      → Visiting sub constraints old next a c (x || y) end
  visiting_more sub constraints old now next a b c x y place end reads bound v p met = record {
    visits = visits_append sub old now next a b c x y v.visits p;
    met = λ k h. ⊎_elim
        (λ front. met_stays sub (constraint_at constraints k) now next
        (subst (λ r. set_of next r ≡ set_of now r)
        (sym (reads _ (contained_at constraints k (omega (arith, h, bound))))) p.own) p.advances.kept
        (v.met k front))
        (λ past. met k past h)
        (cases_lt k place);
    within = bound;
  }

  pub visiting_end : (sub : ℕ) (constraints : List Constraint) (old now : List (List Bool)) (a b : List Bool) (x : Bool)
      (place : ℕ) → length constraints ≤ place → Visiting sub constraints old now a b x place → (c : Constraint)
      → Contains constraints c → IsMet q now c
  visiting_end sub constraints old now a b x place all v =
      each_contained (IsMet q now) constraints (λ k l. v.met k (omega (arith, all, l)))

  -- ---- a turn

  pub tracked_turn : (sub : ℕ) (old new : List (List Bool)) (marks after : List Bool) (changed : Bool)
      → IsTracked q old marks → Visits q sub old new (set marks sub false) after changed
      → ((c : Constraint) → Contains q.constraints c → c.sub ≡ sub → IsMet q new c) → IsTracked q new after
  tracked_turn sub old new marks after changed t v met = grind (arith, get_or-set_other, met_stays, cases_eq)

  pub turns_visit : (sub : ℕ) (old new : List (List Bool)) (marks after : List Bool) (changed : Bool)
      → length marks ≡ q.regions → IsTracked q old marks → Visits q sub old new (set marks sub false) after changed
      → ((c : Constraint) → Contains q.constraints c → c.sub ≡ sub → IsMet q new c) → Turns q old new after changed
  turns_visit sub old new marks after changed w t v met = grind (arith, length-set, tracked_turn)

  pub turns_append : (old middle new : List (List Bool)) (b c : List Bool) (x y : Bool) → Turns q old middle b x
      → Turns q middle new c y → Turns q old new c (x || y)
  turns_append old middle new b c x y p r = grind (arith, advances_append)

  -- ---- a sweep

  -- The regions before `count` have had their turn.
  pub record Sweeping (first now : List (List Bool)) (marks : List Bool) (changed : Bool) (count : ℕ) : Type 0 where
    pub turns : Turns q first now marks changed
    pub clean : changed ≡ false → (r : ℕ) → r < count → flag marks r ≡ false

  pub sweeping_more : (first now next : List (List Bool)) (marks after : List Bool) (x y : Bool) (count : ℕ)
      → Sweeping first now marks x count → Turns q now next after y
      → (y ≡ false → IsCleared marks after count) → Sweeping first next after (x || y) (count + 1)
  sweeping_more first now next marks after x y count s p clean = grind (arith, turns_append, neither, cases_eq)

  -- where no region is marked, each constraint is met
  pub closed_clean : IsSound q → (values : List (List Bool)) (marks : List Bool) → IsTracked q values marks
      → ((r : ℕ) → r < q.regions → flag marks r ≡ false) → MeetsEach q values
  closed_clean sound values marks t clean =
      λ c h. ⊎_elim (λ d. absurd (false≢true (sym (clean c.sub (sound.constraint_regions c h).1) ∙ d))) (λ m. m) (t c h)

  pub tracked_first : IsSound q → (values : List (List Bool)) → IsTracked q values (replicate q.regions true)
  tracked_first sound values = λ c h. inl (get_or-replicate q.regions c.sub true false (sound.constraint_regions c h).1)

pub eqb_is : (a b : ℕ) → true ≡ eqb a b → a ≡ b
eqb_is a b h = eqb-true a b (sym h)

pub eqb_false : (a b : ℕ) → false ≡ eqb a b → a ≢ b
eqb_false a b h = eqb-false a b (sym h)

-- the same of what a visit answers
pub ok_turns : (q : Problem) (sub : ℕ) (old new : List (List Bool)) (marks cleared after : List Bool) {E : Type 0}
    (r : Result Bool E) → length marks ≡ q.regions → IsTracked q old marks → cleared ≡ set marks sub false
    → IfOk r (Visits q sub old new cleared after)
    → OnOk r ((c : Constraint) → Contains q.constraints c → c.sub ≡ sub → IsMet q new c)
    → IfOk r (Turns q old new after)
ok_turns q sub old new marks cleared after (Ok changed) w t same v met =
    turns_visit q sub old new marks after changed w t (subst (λ fs. Visits q sub old new fs after changed) same v) met
ok_turns q sub old new marks cleared after (Err e) w t same v met = v

-- ---- the order of constraints

pub sups_ascend : (constraints : List Constraint) → AllPairs IsLower constraints → SupsAscend constraints
sups_ascend constraints pairs = record {
  sups = λ j k le within. ⊎_elim
      (λ before. ⊎_elim (λ less. omega (arith, less)) (λ same. omega (arith, same.0))
      (pairs j k no_constraint before within))
      (λ back. let here : j ≡ k = omega (arith, le, back) in
      omega (arith, ap (λ i. (constraint_at constraints i).sup) here))
      (cases_lt j k);
  points = λ j k le within same. ⊎_elim
      (λ before. ⊎_elim (λ less. absurd (omega (arith, less, same))) (λ low. omega (arith, low.1))
      (pairs j k no_constraint before within))
      (λ back. let here : j ≡ k = omega (arith, le, back) in
      omega (arith, ap (λ i. at_rank (constraint_at constraints i).at) here))
      (cases_lt j k);
}

-- ---- the part of a pair

module _ (constraints : List Constraint) (place end : ℕ) (low : place < end) (high : end ≤ length constraints) where
  abbrev part : List Constraint
  part = slice_range constraints place end

  part_length : length part ≡ end - place
  part_length =
      omega (arith, length-take (end - place) (drop place constraints), length-drop place constraints, low, high)

  part_at : (k : ℕ) (d : Constraint) → k < end - place → get_or part k d ≡ get_or constraints (place + k) d
  part_at k d h = get_or-take (end - place) (drop place constraints) k d h ∙ get_or-drop place constraints k d

  pub part_ascends : SupsAscend constraints → AreOfOneSup constraints place end → PointsAscend part
  part_ascends s one j k le within = grind (arith, part_length, part_at)

  -- each constraint of the part stands in the list, between the two places
  pub part_of : AreOfOneSup constraints place end → (c : Constraint) → Contains part c
      → Contains constraints c × (c.sup ≡ (constraint_at constraints place).sup)
  part_of one c (k, l, is) =
      let a : k < end - place = omega (arith, l, part_length) in
      let within : place + k < length constraints = omega (arith, a, high) in
      let there : get_or constraints (place + k) c ≡ c = sym (part_at k c a) ∙ is in (
        (place + k, within, there),
        sym (ap (λ (d : Constraint). d.sup)
            (get_or_default constraints (place + k) no_constraint c within ∙ there))
            ∙ one (place + k) (omega arith) (omega (arith, a)),
      )

  pub in_part : (k : ℕ) → place ≤ k → k < end → Contains part (constraint_at constraints k)
  in_part k a b =
      let at : place + (k - place) ≡ k = omega (arith, a) in (
        k - place,
        omega (arith, a, b, part_length),
        part_at (k - place) (constraint_at constraints k) (omega (arith, a, b))
            ∙ (ap (λ i. get_or constraints i (constraint_at constraints k)) at
            ∙ get_or_default constraints k (constraint_at constraints k) no_constraint (omega (arith, b, high))),
      )

-- ---- runs into a value

-- The first `count` runs of a list have been put into the value of a region.
pub record FillingAll (region : ℕ) (runs : List Run) (old now : List (List Bool)) (changed : Bool)
    (count : ℕ) : Type 0 where
  pub gains : Gains (λ r e. (r ≡ region) × IsInRuns runs e) old now
  pub covers : (k e : ℕ) → k < count → first_of runs k ≤ e → e ≤ last_of runs k → IsHeld now region e
  pub tells : Tells changed old now

pub filling_more : (region : ℕ) (runs : List Run) (old now next : List (List Bool)) (x y : Bool) (count : ℕ) (run : Run)
    → run.first ≡ first_of runs count → run.last ≡ last_of runs count → count < length runs
    → FillingAll region runs old now x count → Gains (λ r e. (r ≡ region) × IsWithin run e) now next
    → ((e : ℕ) → IsWithin run e → IsHeld next region e) → Tells y now next
    → FillingAll region runs old next (x || y) (count + 1)
filling_more region runs old now next x y count run first last within f g covers tells =
    grind (arith, gains_append, gains_weaker, cases_eq, tells_append)
