-- A problem to which all facts of a body came is the body's, on the body's graph.
use Rattle.std.proofs.Common.{◌≡◌, ◌↔◌, ℕ, List, [], Contains, Result, Ok, Err, IsOkAnd, IfOk, length, inl, inr, sym, ap, ◌∙◌, subst, ⊎_elim, arith}
use Rattle.nll_problem.specs.Building.{bare_problem}
use Rattle.nll_problem.specs.Graph.{Graph}
use Rattle.nll_problem.specs.GraphBuilding.{bare_graph}
use Rattle.nll_problem.specs.Problem.{Problem, IsSound, SameProblem}
use Rattle.nll_problem.specs.declared.constraint.Constraint.{Constraint}
use Rattle.nll_problem.specs.declared.error.BuildError.{BuildError}
use Rattle.nll_body.specs.Bodies.{BodyText, IsGraphOf}
use Rattle.nll_live.specs.Live.{IsBaseOf}
use Rattle.nll_rules.specs.BodyProblem.{IsConstraint, IsProblemOf, HasTooMany}
use Rattle.nll_rules.specs.Adding.{AddsOutlives, AddsConstraints, HasFactsOf, IsRoomRefused, IsRefusedFor}
use Rattle.nll_rules.proofs.AddingLemmas.{nothing, only_new, no_more}

-- the steps in front of the constraints, from the problem of the points and universal regions alone
pub record AreSteps (body : BodyText) (counted known based : Problem) : Type 0 where
  pub regions : counted ≡ record (bare_problem (bare_graph (length body.points) body.universals))
      { regions = length body.names }
  pub outlives : AddsOutlives body.outlives counted known
  pub others : based ≡ record known { bases = based.bases }
  pub bases : (r p : ℕ) → Contains based.bases (r, p) ↔ IsBaseOf body r p

-- what the first two of them leave as it was
module _ (body : BodyText) (counted known : Problem)
    (regions : counted ≡ record (bare_problem (bare_graph (length body.points) body.universals))
    { regions = length body.names })
    (outlives : AddsOutlives body.outlives counted known) where
  known_graph : known.graph ≡ bare_graph (length body.points) body.universals
  known_graph = ap (λ (q : Problem). q.graph) outlives.others ∙ ap (λ (q : Problem). q.graph) regions

  pub known_points : known.graph.points ≡ length body.points
  known_points = ap (λ (g : Graph). g.points) known_graph

  pub known_regions : known.regions ≡ length body.names
  known_regions = ap (λ (q : Problem). q.regions) outlives.others ∙ ap (λ (q : Problem). q.regions) regions

  pub known_bases : known.bases ≡ []
  known_bases = ap (λ (q : Problem). q.bases) outlives.others ∙ ap (λ (q : Problem). q.bases) regions

  pub known_constraints : known.constraints ≡ []
  known_constraints = ap (λ (q : Problem). q.constraints) outlives.others ∙ ap (λ (q : Problem). q.constraints) regions

module _ (body : BodyText) (counted known based : Problem) (steps : AreSteps body counted known based) where
  based_graph : based.graph ≡ bare_graph (length body.points) body.universals
  based_graph = ap (λ (q : Problem). q.graph) steps.others ∙ known_graph body counted known steps.regions steps.outlives

  pub based_points : based.graph.points ≡ length body.points
  based_points = ap (λ (g : Graph). g.points) based_graph

  pub based_regions : based.regions ≡ length body.names
  based_regions = ap (λ (q : Problem). q.regions) steps.others
      ∙ known_regions body counted known steps.regions steps.outlives

  based_constraints : based.constraints ≡ []
  based_constraints = ap (λ (q : Problem). q.constraints) steps.others
      ∙ known_constraints body counted known steps.regions steps.outlives

  -- all facts
  pub whole : (q : Problem) → AddsConstraints (IsConstraint body) based q → HasFactsOf body q
  whole q asked = record {
    points = ap (λ (z : Problem). z.graph.points) asked.others ∙ based_points;
    universals = ap (λ (z : Problem). z.graph.universals) asked.others ∙ ap (λ (g : Graph). g.universals) based_graph;
    each = λ g shown. record {
      graph = shown;
      regions = ap (λ (z : Problem). z.regions) asked.others ∙ based_regions;
      bases = λ r p.
          let same : q.bases ≡ based.bases = ap (λ (z : Problem). z.bases) asked.others in (
            λ h. (steps.bases r p).0 (subst (λ (xs : List (ℕ × ℕ)). Contains xs (r, p)) same h),
            λ h. subst (λ (xs : List (ℕ × ℕ)). Contains xs (r, p)) (sym same) ((steps.bases r p).1 h),
          );
      constraints = only_new based.constraints q.constraints (IsConstraint body) based_constraints asked.each;
      outlives = λ x.
          let same : q.outlives ≡ known.outlives = ap (λ (z : Problem). z.outlives) asked.others
          ∙ ap (λ (z : Problem). z.outlives) steps.others in
          let new =
          only_new counted.outlives known.outlives (Contains body.outlives)
          (ap (λ (z : Problem). z.outlives) steps.regions) steps.outlives.each x in (
            λ h. new.0 (subst (λ (xs : List (ℕ × ℕ)). Contains xs x) same h),
            λ h. subst (λ (xs : List (ℕ × ℕ)). Contains xs x) (sym same) (new.1 h),
          );
    };
  }

  pub whole_refused : (e : BuildError) → IsRoomRefused (IsConstraint body) based e → IsRefusedFor body e
  whole_refused e = ⊎_elim inl (λ h. inr (
    h.0,
    (
      h.1.0,
      h.1.1,
      h.1.2,
      λ c there. ⊎_elim
          (λ old. absurd (nothing c (subst (λ (cs : List Constraint). Contains cs c) based_constraints old)))
          (λ k. k)
          (h.1.3 c there),
    ),
  ))

-- a finished problem has the body's facts where the builder's had them
finished_has : (body : BodyText) (p q : Problem) → HasFactsOf body p → SameProblem p q
    → q ≡ record p { bases = q.bases; outlives = q.outlives } → HasFactsOf body q
finished_has body p q has same others = record {
  points = ap (λ (z : Problem). z.graph.points) others ∙ has.points;
  universals = ap (λ (z : Problem). z.graph.universals) others ∙ has.universals;
  each = λ g shown. let h = has.each g shown in record {
    graph = shown;
    regions = ap (λ (z : Problem). z.regions) others ∙ h.regions;
    bases = λ r e. (λ c. (h.bases r e).0 ((same.bases (r, e)).1 c), λ b. (same.bases (r, e)).0 ((h.bases r e).1 b));
    constraints =
        λ c. (
          λ there. (h.constraints c).0 ((same.constraints c).1 there),
          λ k. (same.constraints c).0 ((h.constraints c).1 k),
        );
    outlives =
        λ x. (λ there. (h.outlives x).0 ((same.outlives x).1 there), λ k. (same.outlives x).0 ((h.outlives x).1 k));
  };
}

pub finished_ok : (body : BodyText) (p : Problem) (r : Result Problem BuildError) → HasFactsOf body p
    → IsOkAnd r (SameProblem p) → IfOk r (λ q. q ≡ record p { bases = q.bases; outlives = q.outlives })
    → IfOk r (HasFactsOf body)
finished_ok body p (Ok q) has same others = finished_has body p q has same others
finished_ok body p (Err e) has same others = tt

-- what is told by the same facts is the same
both_ways : {A B C : Type 0} → (A ↔ C) → (B ↔ C) → A ↔ B
both_ways one other = (λ a. other.1 (one.0 a), λ b. one.1 (other.0 b))

-- a body has one problem at most
pub same_problem : (body : BodyText) (p q : Problem) → IsProblemOf body p → IsProblemOf body q → SameProblem p q
same_problem body p q one other = record {
  points = one.graph.points ∙ sym other.graph.points;
  universals = one.graph.universals ∙ sym other.graph.universals;
  regions = one.regions ∙ sym other.regions;
  edges = λ x. both_ways (one.graph.next x.0 x.1) (other.graph.next x.0 x.1);
  returns = λ r. both_ways (one.graph.returns r) (other.graph.returns r);
  bases = λ x. both_ways (one.bases x.0 x.1) (other.bases x.0 x.1);
  constraints = λ c. both_ways (one.constraints c) (other.constraints c);
  outlives = λ x. both_ways (one.outlives x) (other.outlives x);
}

-- a body that has a problem hasn't too many constraints
pub not_too_many : (body : BodyText) (q : Problem) → IsProblemOf body q → IsSound q → HasTooMany body → ⊥
not_too_many body q h sound many =
    let among = no_more many.0 q.constraints many.1 (λ c there. (h.constraints c).1 (many.3 c there)) in
    absurd (omega (arith, many.2, sound.constraint_limit, among))
