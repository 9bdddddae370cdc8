-- Facts that come to a problem, and constraints for which there is no room.
use Rattle.std.proofs.Common.{◌≡◌, ◌⊎◌, ◌↔◌, ℕ, ◌+◌, ◌<◌, ◌≤◌, Bool, true, false, not, List, [], ◌∷◌, ◌++◌, Contains, length, get_or, take, drop, Some, None, inl, inr, refl, sym, ap, ◌∙◌, subst, ⊎_elim, arith, length-append}
use Rattle.std.specs.Prelude.{◌&&◌}
use Rattle.std.proofs.lemmas.Bool.{lt-ltb, leb-true}
use Rattle.std.proofs.lemmas.List.{take-append-drop}
use Rattle.std.proofs.lemmas.List.Elements.{Contains-push, Contains-push_cases, Contains-append_left}
use Rattle.std.proofs.lemmas.Map.Made.{length-le_from_is_member, IsDistinct-from_AllPairs}
use Rattle.nll_problem.specs.Answers.{AddsFact}
use Rattle.nll_problem.specs.At.{IsAmong, is_among}
use Rattle.nll_problem.specs.declared.at.At.{At}
use Rattle.nll_problem.specs.declared.at.At.TheVariants.{All, Point}
use Rattle.nll_problem.specs.BaseRuns.{AddsRun}
use Rattle.nll_problem.specs.Building.{first_error, same_constraint, has_constraint, is_full, constraint_error}
use Rattle.nll_problem.specs.Limits.{most_constraints}
use Rattle.nll_problem.specs.Problem.{Problem, IsOnce, IsSound}
use Rattle.nll_problem.specs.declared.base_run.BaseRun.{BaseRun}
use Rattle.nll_problem.specs.declared.constraint.Constraint.{Constraint}
use Rattle.nll_problem.specs.declared.error.BuildError.{BuildError}
use Rattle.nll_problem.specs.declared.error.BuildError.TheVariants.{Limit, Memory}
use Rattle.nll_problem.specs.declared.error.Kind.TheVariants.{Constraints}
use Rattle.nll_problem.proofs.BaseRunLemmas.{in_next}
use Rattle.nll_problem.proofs.FactLemmas.{exact_equivalence, constraint_is, constraint_same, constraint_found, once_constraint_absent}
use Rattle.nll_rules.proofs.PairLemmas.{came_both, came_same}
use Rattle.nll_rules.specs.Adding.{AddsOutlives, AddsBases, AddsConstraints, IsRoomRefused, IsOfPair, IsOfPairs, IsOfPairsEverywhere, everywhere}

-- ---- lists

pub nothing : {X : Type 0} (x : X) → Contains [] x → ⊥
nothing x h = absurd (omega (arith, h.1))

pub taken : {X : Type 0} (k : ℕ) (xs : List X) (x : X) → Contains (take k xs) x → Contains xs x
taken {X} k xs x h =
    subst (λ (ys : List X). Contains ys x) (take-append-drop k xs) (Contains-append_left (take k xs) (drop k xs) x h)

-- what came to nothing is all that there is
pub only_new : {X : Type 0} (old new : List X) (kind : X → Type 0) → old ≡ []
    → ((x : X) → Contains new x ↔ (Contains old x ⊎ kind x)) → (x : X) → Contains new x ↔ kind x
only_new {X} old new kind none each x = (
  λ n. ⊎_elim (λ o. absurd (nothing x (subst (λ (xs : List X). Contains xs x) none o))) (λ k. k) ((each x).0 n),
  λ k. (each x).1 (inr k),
)

-- one fact more
grown : (old mid new front : List (ℕ × ℕ)) (x : ℕ × ℕ)
    → ((y : ℕ × ℕ) → Contains mid y ↔ (Contains old y ⊎ Contains front y)) → AddsFact mid new x
    → (y : ℕ × ℕ) → Contains new y ↔ (Contains old y ⊎ Contains (front ++ x ∷ []) y)
grown old mid new front x each adds y =
    came_both (each y) (adds.each y) (
      Contains-push_cases front x y,
      ⊎_elim (Contains-append_left front (x ∷ []) y)
          (λ is. subst (Contains (front ++ x ∷ [])) is (Contains-push front x)),
    )

pub outlives_none : (q : Problem) → AddsOutlives [] q q
outlives_none q = record { others = refl; each = λ x. (inl, ⊎_elim (λ o. o) (λ n. absurd (nothing x n))) }

pub outlives_more : (front : List (ℕ × ℕ)) (x : ℕ × ℕ) (old mid new : Problem) → AddsOutlives front old mid
    → AddsFact mid.outlives new.outlives x
    → new ≡ record mid { outlives = new.outlives } → AddsOutlives (front ++ x ∷ []) old new
outlives_more front x old mid new h adds same = record {
  others = same ∙ ap (λ (q : Problem). record q { outlives = new.outlives }) h.others;
  each = grown old.outlives mid.outlives new.outlives front x h.each adds;
}

pub bases_none : (q : Problem) → AddsBases [] q q
bases_none q = record { others = refl; each = λ r p. (inl, ⊎_elim (λ o. o) (λ h. absurd (omega (arith, h.1.1)))) }

pub bases_more : (runs : List BaseRun) (n : ℕ) (run : BaseRun) → n < length runs → run ≡ get_or runs n run
    → (old mid new : Problem) → AddsBases (take n runs) old mid → AddsRun mid.bases new.bases run
    → new ≡ record mid { bases = new.bases } → AddsBases (take (n + 1) runs) old new
bases_more runs n run within is old mid new front adds same = record {
  others = same ∙ ap (λ (q : Problem). record q { bases = new.bases }) front.others;
  each = λ r p. came_both (front.each r p) (adds.each r p) (in_next runs n run within is r p);
}

-- ---- constraints, kind by kind

pub adds_none : (k : Constraint → Type 0) (q : Problem) → ((c : Constraint) → k c → ⊥) → AddsConstraints k q q
adds_none k q none = record { others = refl; each = λ c. (inl, ⊎_elim (λ o. o) (λ y. absurd (none c y))) }

pub adds_same : (k l : Constraint → Type 0) (old new : Problem) → ((c : Constraint) → k c ↔ l c)
    → AddsConstraints k old new → AddsConstraints l old new
adds_same k l old new same h = record {
  others = h.others;
  each = λ c. came_same (h.each c) (same c);
}

pub adds_both : (k l m : Constraint → Type 0) (old mid new : Problem) → ((c : Constraint) → m c ↔ (k c ⊎ l c))
    → AddsConstraints k old mid → AddsConstraints l mid new
    → AddsConstraints m old new
adds_both k l m old mid new both h g = record {
  others = g.others ∙ ap (λ (q : Problem). record q { constraints = new.constraints }) h.others;
  each = λ c. came_both (h.each c) (g.each c) (both c);
}

pub adds_fact : (c : Constraint) (old new : Problem) → AddsFact old.constraints new.constraints c
    → new ≡ record old { constraints = new.constraints }
    → AddsConstraints (λ d. c ≡ d) old new
adds_fact c old new adds same = record { others = same; each = adds.each }

-- ---- refusals

-- what is refused behind some constraints is refused of all of which those are
pub refused_after : (k l m : Constraint → Type 0) (old mid : Problem) (e : BuildError) → AddsConstraints k old mid
    → ((c : Constraint) → k c → m c) → ((c : Constraint) → l c → m c)
    → IsRoomRefused l mid e → IsRoomRefused m old e
refused_after k l m old mid e h first second =
    ⊎_elim inl (λ full. inr (full.0, (let o = full.1 in grind arith)))

pub refused_same : (k m : Constraint → Type 0) (q : Problem) (e : BuildError) → ((c : Constraint) → k c → m c)
    → IsRoomRefused k q e → IsRoomRefused m q e
refused_same k m q e into = refused_after (λ c. ⊥) k m q q e (adds_none (λ c. ⊥) q (λ c f. f)) (λ c f. absurd f) into

-- the first rows don't hold
passed : (at sup sub : Bool) (one other : BuildError) (rows : List (Bool × BuildError)) → at ≡ true → sup ≡ true
    → sub ≡ true
    → first_error ((not at, one) ∷ (not (sup && sub), other) ∷ rows) ≡ first_error rows
passed at sup sub one other rows p q r = rw (p, q, r) refl

-- the test of where a constraint holds
among_test : (n : ℕ) (place : At) → IsAmong n place → is_among n place ≡ true
among_test n All among = refl
among_test n (Point p) among = lt-ltb p n among

-- a constraint that a problem has no room for, or memory
pub refused_one : (q : Problem) (c : Constraint) (e : BuildError) → IsSound q → IsAmong q.graph.points c.at
    → c.sup < q.regions → c.sub < q.regions
    → (constraint_error q c ≡ Some e) ⊎ ((constraint_error q c ≡ None) × (e ≡ Memory)) → IsRoomRefused (λ d. c ≡ d) q e
refused_one q c e sound at sup sub answers =
    ⊎_elim (λ due. by (has_constraint q c) refl (is_full q) refl (sym past ∙ due)) (λ none. inl none.1) answers
  where
    past : constraint_error q c ≡ first_error ((not (has_constraint q c) && is_full q, Limit Constraints) ∷ [])
    past = grind (arith, passed, among_test, lt-ltb)

    limit_is : Some (Limit Constraints) ≡ Some e → e ≡ Limit Constraints
    limit_is due = cc

    by : (h : Bool) → has_constraint q c ≡ h → (f : Bool) → is_full q ≡ f
        → first_error ((not h && f, Limit Constraints) ∷ []) ≡ Some e → IsRoomRefused (λ d. c ≡ d) q e
    by true there f full due = absurd cc
    by false absent false full due = absurd cc
    by false absent true full due =
        let most : most_constraints ≤ length q.constraints = leb-true most_constraints (length q.constraints) full in
        inr (
          limit_is due,
          (
            q.constraints ++ c ∷ [],
            once_constraint_absent q.constraints c absent sound.constraints_once,
            omega (arith, most, length-append q.constraints (c ∷ [])),
            λ d there. Contains-push_cases q.constraints c d there,
          ),
        )

-- ---- how many there are

-- constraints that are all in a list, none of them twice, are no more than it is long
pub no_more : (some all : List Constraint) → IsOnce some → ((c : Constraint) → Contains some c → Contains all c)
    → length some ≤ length all
no_more some all once among =
    length-le_from_is_member (exact_equivalence same_constraint constraint_is constraint_same) some all
    (IsDistinct-from_AllPairs {eq = same_constraint}
    (λ c d. (
      constraint_is c d,
      λ is. subst (λ (z : Constraint). same_constraint c z ≡ true) is
          (constraint_same c),
    )) some once)
    (λ c h. (constraint_found all c).1 (among c ((constraint_found some c).0 h)))

-- ---- pairs of regions at points

-- the constraint of a pair of regions at a point
abbrev pub at_point : ℕ × ℕ → ℕ → Constraint
at_point pair p = record { sub = pair.1; sup = pair.0; at = Point p }

made_is : (c : Constraint) (pair : ℕ × ℕ) (p : ℕ) → (c.sup, c.sub) ≡ pair → c.at ≡ Point p → at_point pair p ≡ c
made_is c pair p is at = ap (λ (x : ℕ × ℕ). at_point x p) (sym is)
    ∙ ap (λ (place : At). record { sub = c.sub; sup = c.sup; at = place }) (sym at)

is_made : (points : List ℕ) (pair : ℕ × ℕ) (p : ℕ) (c : Constraint) → Contains points p → at_point pair p ≡ c
    → IsOfPair points pair c
is_made points pair p c there is = grind arith

pub pair_none : (pair : ℕ × ℕ) (q : Problem) → AddsConstraints (IsOfPair [] pair) q q
pair_none pair q = adds_none (IsOfPair [] pair) q (λ c h. nothing h.1.0 h.1.1)

pub pair_more : (front : List ℕ) (p : ℕ) (pair : ℕ × ℕ) (old mid new : Problem)
    → AddsConstraints (IsOfPair front pair) old mid
    → AddsConstraints (λ c. at_point pair p ≡ c) mid new → AddsConstraints (IsOfPair (front ++ p ∷ []) pair) old new
pair_more front p pair old mid new =
    adds_both (IsOfPair front pair) (λ c. at_point pair p ≡ c) (IsOfPair (front ++ p ∷ []) pair) old mid new (λ c. (
      λ h. ⊎_elim
          (λ before. inl (h.0, (h.1.0, before, h.1.2)))
          (λ (is : p ≡ h.1.0). inr (made_is c pair p h.0 (h.1.2 ∙ ap (λ (n : ℕ). Point n) (sym is))))
          (Contains-push_cases front p h.1.0 h.1.1),
      ⊎_elim (λ h. (h.0, (h.1.0, Contains-append_left front (p ∷ []) h.1.0 h.1.1, h.1.2)))
          (λ is. is_made (front ++ p ∷ []) pair p c (Contains-push front p) is),
    ))

pub pair_refused : (points : List ℕ) (k p : ℕ) (pair : ℕ × ℕ) (old mid : Problem) (e : BuildError)
    → AddsConstraints (IsOfPair (take k points) pair) old mid → Contains points p
    → IsRoomRefused (λ c. at_point pair p ≡ c) mid e → IsRoomRefused (IsOfPair points pair) old e
pair_refused points k p pair old mid e before there =
    refused_after (IsOfPair (take k points) pair) (λ c. at_point pair p ≡ c) (IsOfPair points pair) old mid e before
    (λ c h. (h.0, (h.1.0, taken k points h.1.0 h.1.1, h.1.2))) (λ c is. is_made points pair p c there is)

pub pairs_none : (points : List ℕ) (q : Problem) → AddsConstraints (IsOfPairs points []) q q
pairs_none points q = adds_none (IsOfPairs points []) q (λ c h. nothing (c.sup, c.sub) h.0)

pub pairs_more : (points : List ℕ) (front : List (ℕ × ℕ)) (pair : ℕ × ℕ) (old mid new : Problem)
    → AddsConstraints (IsOfPairs points front) old mid
    → AddsConstraints (IsOfPair points pair) mid new → AddsConstraints (IsOfPairs points (front ++ pair ∷ [])) old new
pairs_more points front pair old mid new =
    adds_both (IsOfPairs points front) (IsOfPair points pair) (IsOfPairs points (front ++ pair ∷ [])) old mid new
    (λ c. (
      λ h. ⊎_elim (λ before. inl (before, h.1)) (λ is. inr (sym is, h.1))
          (Contains-push_cases front pair (c.sup, c.sub) h.0),
      ⊎_elim
          (λ h. (Contains-append_left front (pair ∷ []) (c.sup, c.sub) h.0, h.1))
          (λ h. (subst (Contains (front ++ pair ∷ [])) (sym h.0) (Contains-push front pair), h.1)),
    ))

pub pairs_refused : (points : List ℕ) (pairs : List (ℕ × ℕ)) (k : ℕ) (pair : ℕ × ℕ) (old mid : Problem) (e : BuildError)
    → AddsConstraints (IsOfPairs points (take k pairs)) old mid
    → Contains pairs pair → IsRoomRefused (IsOfPair points pair) mid e → IsRoomRefused (IsOfPairs points pairs) old e
pairs_refused points pairs k pair old mid e before there =
    refused_after (IsOfPairs points (take k pairs)) (IsOfPair points pair) (IsOfPairs points pairs) old mid e before
    (λ c h. (taken k pairs (c.sup, c.sub) h.0, h.1)) (λ c h. (subst (Contains pairs) (sym h.0) there, h.1))

-- ---- pairs of regions at all points

every_is : (c : Constraint) (pair : ℕ × ℕ) → (c.sup, c.sub) ≡ pair → c.at ≡ All → everywhere pair ≡ c
every_is c pair is at = ap everywhere (sym is)
    ∙ ap (λ (place : At). record { sub = c.sub; sup = c.sup; at = place }) (sym at)

is_every : (pairs : List (ℕ × ℕ)) (pair : ℕ × ℕ) (c : Constraint) → Contains pairs pair → everywhere pair ≡ c
    → IsOfPairsEverywhere pairs c
is_every pairs pair c there is = grind arith

pub every_none : (q : Problem) → AddsConstraints (IsOfPairsEverywhere []) q q
every_none q = adds_none (IsOfPairsEverywhere []) q (λ c h. nothing (c.sup, c.sub) h.1)

pub every_more : (front : List (ℕ × ℕ)) (pair : ℕ × ℕ) (old mid new : Problem)
    → AddsConstraints (IsOfPairsEverywhere front) old mid
    → AddsConstraints (λ c. everywhere pair ≡ c) mid new
    → AddsConstraints (IsOfPairsEverywhere (front ++ pair ∷ [])) old new
every_more front pair old mid new =
    adds_both (IsOfPairsEverywhere front) (λ c. everywhere pair ≡ c)
    (IsOfPairsEverywhere (front ++ pair ∷ [])) old mid new (λ c. (
      λ h. ⊎_elim (λ before. inl (h.0, before)) (λ is. inr (every_is c pair (sym is) h.0))
          (Contains-push_cases front pair (c.sup, c.sub) h.1),
      ⊎_elim (λ h. (h.0, Contains-append_left front (pair ∷ []) (c.sup, c.sub) h.1))
          (λ is. is_every (front ++ pair ∷ []) pair c (Contains-push front pair) is),
    ))

pub every_refused : (pairs : List (ℕ × ℕ)) (k : ℕ) (pair : ℕ × ℕ) (old mid : Problem) (e : BuildError)
    → AddsConstraints (IsOfPairsEverywhere (take k pairs)) old mid
    → Contains pairs pair → IsRoomRefused (λ c. everywhere pair ≡ c) mid e
    → IsRoomRefused (IsOfPairsEverywhere pairs) old e
every_refused pairs k pair old mid e before there =
    refused_after (IsOfPairsEverywhere (take k pairs)) (λ c. everywhere pair ≡ c)
    (IsOfPairsEverywhere pairs) old mid e before
    (λ c h. (h.0, taken k pairs (c.sup, c.sub) h.1)) (λ c is. is_every pairs pair c there is)
