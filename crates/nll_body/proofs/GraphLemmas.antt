-- What the graph has after some of the points, and after all.
use Rattle.std.proofs.Common.{◌≡◌, ℕ, ◌+◌, ◌≤◌, List, [], Contains, length, Some, slice_get, inl, inr, sym, ap, ◌∙◌, subst, ⊎_elim, arith, get_or}
use Rattle.std.proofs.lemmas.Bool.{cases_lt}
use Rattle.std.proofs.lemmas.Option.{get_or_from_slice_get, slice_get_within}
use Rattle.std.proofs.lemmas.List.Sums.{sum_by_more, sum_by_more_le}
use Rattle.nll_problem.specs.Graph.{Graph}
use Rattle.nll_problem.specs.Limits.{most_edges}
use Rattle.nll_body.specs.Statements.{Statement, return}
use Rattle.nll_body.specs.Edges.{LeavesTo, edges_from, edge_count}
use Rattle.nll_body.specs.Making.{AddsPoint, HasPoints}
use Rattle.nll_body.specs.Bodies.{BodyText, IsGraphOf}

none_there : {X : Type 0} (x : X) → Contains [] x → ⊥
none_there x h = absurd (omega (arith, h.1))

-- one statement stands at a point
pub some_same : {R T : Type 0} (i j : Statement R T) → Some i ≡ Some j → i ≡ j
some_same i j h = cc

-- one point more
pub points_step : {R T : Type 0} (starts : List ℕ) (count : ℕ) (stand : List (Statement R T)) (k : ℕ)
    (i : Statement R T) (old new : Graph) → HasPoints starts count stand k old → slice_get stand k ≡ Some i
    → AddsPoint starts k i old new → HasPoints starts count stand (k + 1) new
points_step starts count stand k i old new has at adds = record {
  points = adds.points ∙ has.points;
  universals = adds.universals ∙ has.universals;
  next = λ p q. (
    λ h. ⊎_elim
        (λ there. let before = (has.next p q).0 there in (omega (arith, before.0), before.1, before.2, before.3))
        (λ here. (
          omega (arith, here.0),
          i,
          ap (slice_get stand) here.0 ∙ at,
          subst (λ r. LeavesTo starts r i q) (sym here.0) here.1,
        ))
        ((adds.next p q).0 h),
    λ h. (adds.next p q).1 (⊎_elim
        (λ low. inl ((has.next p q).1 (low, h.1, h.2, h.3)))
        (λ high.
        let same : p ≡ k = omega (arith, high, h.0) in
        let what : h.1 ≡ i = some_same h.1 i (sym h.2 ∙ ap (slice_get stand) same ∙ at) in
        inr (same, subst (λ j. LeavesTo starts k j q) what (subst (λ r. LeavesTo starts r h.1 q) same h.3)))
        (cases_lt p k)),
  );
  returns = λ p. (
    λ h. ⊎_elim
        (λ there. let before = (has.returns p).0 there in (omega (arith, before.0), before.1))
        (λ here. (omega (arith, here.0), ap (slice_get stand) here.0 ∙ (at ∙ ap Some here.1)))
        ((adds.returns p).0 h),
    λ h. (adds.returns p).1 (⊎_elim
        (λ low. inl ((has.returns p).1 (low, h.1)))
        (λ high.
        let same : p ≡ k = omega (arith, high, h.0) in
        inr (same, some_same i return (sym at ∙ ap (slice_get stand) (sym same) ∙ h.1)))
        (cases_lt p k)),
  );
  counted =
      let more = sum_by_more edges_from stand k i (slice_get_within stand k i at) in
      let last : get_or stand k i ≡ i = get_or_from_slice_get stand k i i at in
      omega (arith, adds.counted, has.counted, more, ap edges_from last);
}

-- there is room for the edges of one point more
pub points_room : {R T : Type 0} (starts : List ℕ) (count : ℕ) (stand : List (Statement R T)) (k : ℕ)
    (i : Statement R T) (old : Graph) → HasPoints starts count stand k old → slice_get stand k ≡ Some i
    → edge_count stand ≤ most_edges → length old.edges + edges_from i ≤ most_edges
points_room starts count stand k i old has at room =
    let more = sum_by_more_le edges_from stand k i (slice_get_within stand k i at) in
    let last : get_or stand k i ≡ i = get_or_from_slice_get stand k i i at in
    omega (arith, has.counted, more, ap edges_from last, room)

-- the graph after all points is the body's
pub graph_shown : (body : BodyText) (graph : Graph)
    → HasPoints body.starts body.universals body.points (length body.points) graph → IsGraphOf body graph
graph_shown body graph has = record {
  points = has.points;
  universals = has.universals;
  next = λ p q. (
    λ h. let found = (has.next p q).0 h in (found.1, found.2, found.3),
    λ h. (has.next p q).1 (slice_get_within body.points p h.0 h.1, h.0, h.1, h.2),
  );
  returns = grind (arith, slice_get_within);
}
