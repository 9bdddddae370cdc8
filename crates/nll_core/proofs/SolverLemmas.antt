-- The solver: the base elements, a round over the constraints, and the least solution at the end of the rounds.
use Rattle.std.proofs.Common.{◌≡◌, ◌↔◌, ℕ, ◌+◌, ◌<◌, ◌≤◌, Bool, true, false, ◌||◌, List, replicate, take, Contains, IsTrue, length, get_or, refl, sym, ap, ◌∙◌, subst, inl, inr, ⊎_elim, arith}
use Rattle.std.proofs.lemmas.Bool.{true≢false, cases_eq}
use Rattle.std.proofs.lemmas.List.{get_or_default, get_or-replicate, length-replicate}
use Rattle.nll_sets.specs.Runs.{IsWithin}
use Rattle.nll_sets.specs.declared.run.Run.{Run}
use Rattle.nll_problem.specs.BaseRuns.{IsInBaseRuns}
use Rattle.nll_problem.specs.Graph.{element_count}
use Rattle.nll_problem.specs.Problem.{Problem, IsBase, IsUniversal, end_of}
use Rattle.nll_problem.specs.Solution.{Asks, Satisfies, Least}
use Rattle.nll_core.specs.Values.{set_of, holds, IsHeld, with_element, IsShaped}
use Rattle.nll_core.specs.Growing.{Gains, Tells, IsBelow, StaysBelow, IsMet, MeetsEach}
use Rattle.nll_problem.specs.declared.base_run.BaseRun.{BaseRun}
use Rattle.nll_problem.specs.declared.constraint.Constraint.{Constraint}
use Rattle.nll_problem.proofs.BaseRunLemmas.{run_there, in_next}
use Rattle.nll_problem.proofs.AskLemmas.{asked_weaker}
use Rattle.nll_core.proofs.GrowingLemmas.{held_one, gains_none, gains_one, gains_append, gains_weaker, tells_none, tells_append}

module _ (q : Problem) where
  -- ---- shapes

  pub shaped_empty : IsShaped q (replicate q.regions (replicate (element_count q.graph) false))
  shaped_empty = record {
    regions = length-replicate q.regions (replicate (element_count q.graph) false);
    elements = λ r h. ap length (get_or-replicate q.regions r (replicate (element_count q.graph) false) _ h)
        ∙ length-replicate (element_count q.graph) false;
  }

  pub shaped_gains : (kind : ℕ → ℕ → Type 0) (old new : List (List Bool)) → IsShaped q old → Gains kind old new
      → IsShaped q new
  shaped_gains kind old new s g =
      record { regions = g.width ∙ s.regions; elements = λ r h. g.widths r ∙ s.elements r h }

  -- ---- the base elements

  -- The universal regions before `count` hold what is theirs from the start.
  pub record Filling (old new : List (List Bool)) (count : ℕ) : Type 0 where
    pub gains : Gains (IsBase q) old new
    pub points : (r e : ℕ) → r < count → e < q.graph.points → IsHeld new r e
    pub ends : (r : ℕ) → r < count → IsHeld new r (end_of q r)

  pub filling_first : (old : List (List Bool)) → Filling old old 0
  filling_first old = record {
    gains = gains_none (IsBase q) old;
    points = λ r e h. absurd (omega arith);
    ends = λ r h. absurd (omega arith);
  }

  -- the points of one more universal region
  pub filling_points : (old middle new : List (List Bool)) (count points : ℕ) → points ≡ q.graph.points
      → count < q.graph.universals → Gains (IsBase q) old middle → Gains (λ r e. (r ≡ count) × (e < points)) middle new
      → Gains (IsBase q) old new
  filling_points old middle new count points is universal f g = gains_append (IsBase q) old middle new f
      (gains_weaker _ (IsBase q) (λ r e h. inr (omega (arith, h.0), inl (omega (arith, h.1)))) middle new g)

  -- its end too
  pub filling_more : (old middle new : List (List Bool)) (count points : ℕ) → points ≡ q.graph.points
      → count < q.graph.universals → Filling old middle count
      → Gains (λ r e. (r ≡ count) × (e < points)) middle new → ((e : ℕ) → e < points → IsHeld new count e)
      → count < length new → points + count < length (set_of new count)
      → Filling old (with_element new count (points + count)) (count + 1)
  filling_more old middle new count points is universal f g covers within below =
      let last : Gains (IsBase q) new (with_element new count (points + count)) =
      gains_one new count (points + count) within below (IsBase q)
      (inr (universal, inr (ap (λ n. n + count) is))) in
      record {
        gains = gains_append (IsBase q) _ _ _ (filling_points old middle new count points is universal f.gains g) last;
        points = λ r e h k. last.kept r e (⊎_elim
            (λ same. subst (λ x. IsHeld new x e) (sym same) (covers e (omega arith)))
            (λ other. g.kept r e (f.points r e (omega arith) k))
            (cases_eq r count));
        ends = λ r h. ⊎_elim
            (λ same. subst (λ x. IsHeld (with_element new count (points + count)) x (end_of q x)) (sym same)
            (subst (λ p. IsHeld (with_element new count (points + count)) count (p + count)) is
            (held_one new count (points + count) within below)))
            (λ other. last.kept r (end_of q r) (g.kept r (end_of q r) (f.ends r (omega arith))))
            (cases_eq r count);
      }

  -- The points of the first `count` runs of base facts are held.
  pub record Listing (runs : List BaseRun) (old new : List (List Bool)) (count : ℕ) : Type 0 where
    pub gains : Gains (IsBase q) old new
    pub covers : (r e : ℕ) → IsInBaseRuns (take count runs) r e → IsHeld new r e

  pub listing_first : (runs : List BaseRun) (old : List (List Bool)) → Listing runs old old 0
  listing_first runs old = record { gains = gains_none (IsBase q) old; covers = λ r e h. absurd (omega (arith, h.1.1)) }

  -- those of one run more
  pub listing_more : (runs : List BaseRun) (old now new : List (List Bool)) (count : ℕ) (run : BaseRun) (own : Run)
      → own.first ≡ run.first → own.last + 1 ≡ run.end → count < length runs → run ≡ get_or runs count run
      → ((r e : ℕ) → IsInBaseRuns runs r e ↔ Contains q.bases (r, e)) → Listing runs old now count
      → Gains (λ r e. (r ≡ run.region) × IsWithin own e) now new → ((e : ℕ) → IsWithin own e → IsHeld new run.region e)
      → Listing runs old new (count + 1)
  listing_more runs old now new count run own begins ends within is each f g covers = record {
    gains = gains_append (IsBase q) _ _ _ f.gains
        (gains_weaker _ (IsBase q) (λ r e h. inl
        ((each r e).0 (
          run,
          run_there runs count run within is,
          (sym h.0, omega (arith, h.1.0, begins), omega (arith, h.1.1, ends)),
        ))) now new g);
    covers = λ r e h. ⊎_elim
        (λ there. g.kept r e (f.covers r e there))
        (λ h. subst (λ x. IsHeld new x e) h.0 (covers e (omega (arith, h.1, begins), omega (arith, h.2, ends))))
        ((in_next runs count run within is r e).0 h);
  }

  -- empty values that gained the base elements hold just these
  pub base_exact : (first middle new : List (List Bool)) → ((r e : ℕ) → IsHeld first r e → ⊥)
      → Gains (IsBase q) first middle → Gains (IsBase q) middle new
      → ((r e : ℕ) → IsUniversal q r → e < q.graph.points → IsHeld middle r e)
      → ((r : ℕ) → IsUniversal q r → IsHeld middle r (end_of q r))
      → ((r e : ℕ) → Contains q.bases (r, e) → IsHeld new r e)
      → (r e : ℕ) → IsHeld new r e ↔ IsBase q r e
  base_exact first middle new nothing g k points ends given r e = (
    λ h. ⊎_elim (λ before. ⊎_elim (λ none. absurd (nothing r e none)) (λ b. b) (g.cause r e before)) (λ b. b)
        (k.cause r e h),
    ⊎_elim (given r e) (λ own. k.kept r e
        (⊎_elim (points r e own.0) (λ is. subst (IsHeld middle r) (sym is) (ends r own.0)) own.1)),
  )

  -- ---- a round

  -- what a constraint asks is in each assignment that satisfies the problem and has all of the values
  pub below_gains : (c : Constraint) (old new : List (List Bool)) → Contains q.constraints c
      → Gains (λ r e. (r ≡ c.sup) × Asks q.graph (IsHeld old) c e) old new → StaysBelow q old new
  below_gains c old new of_problem g = λ assignment sat under r e h. ⊎_elim
      (under r e)
      (λ asked. subst (λ x. IsTrue (assignment x e)) (sym asked.0)
      (sat.each c of_problem e (asked_weaker q.graph (IsHeld old c.sub) c.at _ (λ x k. under c.sub x k) e asked.1)))
      (g.cause r e h)

  -- The values of a round after the first `count` constraints.
  pub record Rounding (first now : List (List Bool)) (changed : Bool) (count : ℕ) : Type 0 where
    pub shaped : IsShaped q now
    pub kept : (r e : ℕ) → IsHeld first r e → IsHeld now r e
    pub below : StaysBelow q first now
    pub tells : Tells changed first now
    pub met : changed ≡ false → (k : ℕ) (c : Constraint) → k < count → IsMet q first (get_or q.constraints k c)

  pub rounding_first : (values : List (List Bool)) → IsShaped q values → Rounding values values false 0
  rounding_first values s = record {
    shaped = s;
    kept = λ r e h. h;
    below = λ assignment sat under. under;
    tells = tells_none values;
    met = λ h k c l. absurd (omega arith);
  }

  pub rounding_stays : (first now next : List (List Bool)) (c : Constraint) → StaysBelow q first now
      → Contains q.constraints c → Gains (λ r e. (r ≡ c.sup) × Asks q.graph (IsHeld now) c e) now next
      → StaysBelow q first next
  rounding_stays first now next c below of_problem g =
      λ assignment sat under. below_gains c now next of_problem g assignment sat (below assignment sat under)

  neither : (x y : Bool) → (x || y) ≡ false → (x ≡ false) × (y ≡ false)
  neither true y h = absurd (true≢false h)
  neither false y h = (refl, h)

  pub rounding_more : (first now next : List (List Bool)) (changed new : Bool) (count : ℕ) (c : Constraint)
      → count < length q.constraints → get_or q.constraints count c ≡ c → Rounding first now changed count
      → Gains (λ r e. (r ≡ c.sup) × Asks q.graph (IsHeld now) c e) now next
      → ((e : ℕ) → Asks q.graph (IsHeld now) c e → IsHeld next c.sup e) → Tells new now next
      → Rounding first next (changed || new) (count + 1)
  rounding_more first now next changed new count c within is r g asks tells = record {
    shaped = shaped_gains _ now next r.shaped g;
    kept = λ s e h. g.kept s e (r.kept s e h);
    below = rounding_stays first now next c r.below (count, within, is) g;
    tells = tells_append changed new first now next r.tells tells;
    met = λ same k d l.
        let both = neither changed new same in
        let here : now ≡ first = r.tells.same both.0 in
        let there : next ≡ now = tells.same both.1 in
        ⊎_elim
        (λ at. subst (IsMet q first) (sym (get_or_default q.constraints k d c (omega arith)
        ∙ (ap (λ j. get_or q.constraints j c) at ∙ is)))
        (λ e h. subst (λ v. IsHeld v c.sup e) (there ∙ here)
        (asks e (subst (λ v. Asks q.graph (IsHeld v) c e) (sym here) h))))
        (λ other. r.met both.0 k d (omega arith))
        (cases_eq k count);
  }

  -- a round over all constraints that changed nothing met each of them
  pub rounding_closed : (first now : List (List Bool)) (changed : Bool) (count : ℕ) → length q.constraints ≤ count
      → Rounding first now changed count → changed ≡ false → MeetsEach q first
  rounding_closed first now changed count all r same =
      λ c h. subst (IsMet q first) h.2 (r.met same h.0 c (omega (arith, h.1)))

  -- ---- the end

  -- values that hold the base elements, are below each assignment that satisfies the problem, and meet each constraint
  -- are the least
  pub least_exact : (values : List (List Bool)) → ((r e : ℕ) → IsBase q r e → IsHeld values r e)
      → ((assignment : ℕ → ℕ → Bool) → Satisfies q (λ s f. IsTrue (assignment s f)) → IsBelow values assignment)
      → MeetsEach q values → (r e : ℕ) → IsHeld values r e ↔ Least q r e
  least_exact values base below closed r e = (
    λ h assignment sat. below assignment sat r e h,
    λ least. least (holds values) (record { base = base; each = closed }),
  )
