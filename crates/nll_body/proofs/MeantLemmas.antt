-- The graph of statements is that of what they mean.
use Rattle.std.proofs.Common.{◌≡◌, ℕ, ◌+◌, ◌<◌, ◌≤◌, List, [], ◌∷◌, map, length, Contains, Option, Some, None, slice_get, inl, inr, refl, sym, ap, ◌∙◌, subst, ⊎_elim, take}
use Rattle.std.specs.Prelude.{option_map}
use Rattle.std.proofs.lemmas.List.{length-map, take-map}
use Rattle.std.proofs.lemmas.List.Sums.{sum_by-cons}
use Rattle.std.proofs.lemmas.Option.{none-some, same_Some, slice_get-map}
use Rattle.nll_problem.specs.Graph.{Graph}
use Rattle.nll_body.specs.Statements.{Statement, map_statement, return}
use Rattle.nll_body.proofs.MapLemmas.{same_terminator, same_targets, same_edges, same_return}
use Rattle.nll_body.specs.Edges.{LeadsToBlock, LeavesTo, edges_from, edge_count}
use Rattle.nll_body.specs.Making.{AreBlocks, AreEdgeEnds, HasPoints}

-- what stands at a place of a mapped list comes from there
mapped_from : {X Y : Type 0} (f : X → Y) (xs : List X) (p : ℕ) (y : Y) → slice_get (map f xs) p ≡ Some y
    → (x : X) × (slice_get xs p ≡ Some x) × (f x ≡ y)
mapped_from {X} {Y} f xs p y h = by (slice_get xs p) refl
  where
    by : (o : Option X) → slice_get xs p ≡ o → (x : X) × (slice_get xs p ≡ Some x) × (f x ≡ y)
    by None e = absurd (none-some y (sym (slice_get-map f xs p ∙ ap (option_map f) e) ∙ h))
    by (Some x) e = (x, e, same_Some (f x) y (sym (slice_get-map f xs p ∙ ap (option_map f) e) ∙ h))

pub mapped_at : {X Y : Type 0} (f : X → Y) (xs : List X) (p : ℕ) (x : X) → slice_get xs p ≡ Some x
    → slice_get (map f xs) p ≡ Some (f x)
mapped_at f xs p x h = slice_get-map f xs p ∙ ap (option_map f) h

module _ {R S T U : Type 0} (f : R → S) (g : T → U) where
  leaves_on : (starts : List ℕ) (p : ℕ) (i : Statement R T) (q : ℕ) → LeavesTo starts p i q
      → LeavesTo starts p (map_statement f g i) q
  leaves_on starts p i q = ⊎_elim
      (λ behind. inl (same_terminator f g i ∙ behind.0, behind.1))
      (λ led. inr (subst (λ bs. LeadsToBlock starts bs q) (sym (same_targets f g i)) led))

  leaves_back : (starts : List ℕ) (p : ℕ) (i : Statement R T) (q : ℕ) → LeavesTo starts p (map_statement f g i) q
      → LeavesTo starts p i q
  leaves_back starts p i q = ⊎_elim
      (λ behind. inl (sym (same_terminator f g i) ∙ behind.0, behind.1))
      (λ led. inr (subst (λ bs. LeadsToBlock starts bs q) (same_targets f g i) led))

  counted_same : (stand : List (Statement R T)) → edge_count (map (map_statement f g) stand) ≡ edge_count stand
  counted_same [] = refl
  counted_same (i ∷ stand) =
      sum_by-cons edges_from (map_statement f g i) (map (map_statement f g) stand)
      ∙ ap (λ (n : ℕ). n + edge_count (map (map_statement f g) stand)) (same_edges f g i)
      ∙ ap (λ (n : ℕ). edges_from i + n) (counted_same stand)
      ∙ sym (sum_by-cons edges_from i stand)

  module _ (stand : List (Statement R T)) where
    pub few_edges : (n : ℕ) → edge_count (map (map_statement f g) stand) ≤ n → edge_count stand ≤ n
    few_edges n h = subst (λ k. k ≤ n) (counted_same stand) h

    pub are_blocks : (count : ℕ) → AreBlocks count (map (map_statement f g) stand) → AreBlocks count stand
    are_blocks count h p b i at c =
        h p b (map_statement f g i) (mapped_at (map_statement f g) stand p i at)
        (subst (λ bs. Contains bs b) (sym (same_targets f g i)) c)

    pub are_ends : (starts : List ℕ) → AreEdgeEnds starts (map (map_statement f g) stand) → AreEdgeEnds starts stand
    are_ends starts h p q i at leaves =
        subst (λ n. q < n) (length-map stand (map_statement f g))
        (h p q (map_statement f g i) (mapped_at (map_statement f g) stand p i at) (leaves_on starts p i q leaves))

    pub has_points : (starts : List ℕ) (count n : ℕ) (graph : Graph) → HasPoints starts count stand n graph
        → HasPoints starts count (map (map_statement f g) stand) n graph
    has_points starts count n graph has = record {
      points = has.points ∙ sym (length-map stand (map_statement f g));
      universals = has.universals;
      next = λ p q. (
        λ h. let d = (has.next p q).0 h in
            (d.0, map_statement f g d.1, mapped_at (map_statement f g) stand p d.1 d.2, leaves_on starts p d.1 q d.3),
        λ h. let b = mapped_from (map_statement f g) stand p h.1 h.2 in
            (has.next p q).1
            (h.0, b.0, b.1, leaves_back starts p b.0 q (subst (λ j. LeavesTo starts p j q) (sym b.2) h.3)),
      );
      returns = λ p. (
        λ h. let d = (has.returns p).0 h in (d.0, mapped_at (map_statement f g) stand p return d.1),
        λ h. let b = mapped_from (map_statement f g) stand p return h.1 in
            (has.returns p).1 (h.0, b.1 ∙ ap Some ((same_return f g b.0).1 b.2)),
      );
      counted = subst (λ k. length graph.edges ≤ k)
          (sym (ap edge_count (take-map (map_statement f g) n stand) ∙ counted_same (take n stand))) has.counted;
    }
