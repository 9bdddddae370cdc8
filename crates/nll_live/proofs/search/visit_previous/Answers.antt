use Rattle.std.proofs.Common.{Contains, subst, sym, ◌∙◌, arith}
use Rattle.std.specs.Prelude.{slice_index}
use borrow.Author.Count.{below_more}
use Rattle.std.proofs.lemmas.Bool.{false≢true}
use Rattle.std.proofs.lemmas.List.Elements.{Contains-get_or}
use Rattle.nll_live.specs.Live.{DefinesAt, GoesOnUndefined}
use Rattle.nll_live.specs.Lows.{IsLow}
use Rattle.nll_live.specs.Marks.{IsUnderNewMark}
use Rattle.nll_live.proofs.MarkLemmas.{reaches_append, reaches_weaker, reached_kept, at_each}
use Rattle.nll_live.proofs.SearchLemmas.{going_on, going_within}
use Rattle.nll_live.proofs.search.visit_previous.Goals as goal

pub defines-requires : goal.defines-requires
defines-requires c =
    going_within c.args.search.now.body.now c.args.search.now.previous.now c.requires.search.shown c.args.point
    c.previous_of-points.result.now c.previous_of-points.ensures.each c.loop-before.before-index
    c.loop-before-test.true

pub visit-requires-clause-point : goal.visit-requires-clause-point
visit-requires-clause-point c =
    going_within c.args.search.now.body.now c.args.search.now.previous.now c.requires.search.shown c.args.point
    c.previous_of-points.result.now c.previous_of-points.ensures.each c.loop-before.before-index
    c.loop-before-test.true

pub loop-before-preserved-then-defines : goal.loop-before-preserved-then-defines
loop-before-preserved-then-defines c = record {
  reaches = c.loop-before.invariant.reaches;
  found = c.loop-before.invariant.found;
  all = below_more _ _ c.loop-before.invariant.all (λ n. absurd (n (c.defines.ensures.0 c.if-defines.true)));
}

pub loop-before-preserved : goal.loop-before-preserved
loop-before-preserved c =
    let step =
    reaches_weaker _ (λ low p. Contains c.previous_of-points.result.now p × (DefinesAt c.args.search.now.body.now
    c.args.search.now.variable p → ⊥)
    × IsLow (slice_index c.args.search.now.starts.now p) c.args.search.now.definitions.now p low) _ _ _ _ _ _ _
    (λ low p h. (
      subst (Contains c.previous_of-points.result.now) (sym h.0)
          (Contains-get_or c.previous_of-points.result.now c.loop-before.before-index 0 c.loop-before-test.true),
      λ d. false≢true (sym c.if-defines.false ∙ c.defines.ensures.1 (subst (DefinesAt c.args.search.now.body.now
          c.args.search.now.variable) h.0 d)),
      h.1,
    ))
    c.in_ok-visit.ensures.reaches in
    record {
      reaches = reaches_append _ _ _ _ _ _ _ _ _ _ _ c.loop-before.invariant.reaches step;
      found = c.in_ok-visit.ensures.found;
      all = below_more _ _ (λ k h n. reached_kept _ _ _ _ _ _ _ _ step _ (c.loop-before.invariant.all k h n))
          (λ _. c.in_ok-visit.ensures.all);
    }

pub returns-clause-reaches : goal.returns-clause-reaches
returns-clause-reaches c =
    reaches_weaker _ (λ low p. GoesOnUndefined c.args.search.now.body.now c.args.search.now.variable p c.args.point
    × IsLow (slice_index c.args.search.now.starts.now p) c.args.search.now.definitions.now p low) _ _ _ _ _ _ _
    (λ low p h. (
      (
        h.1,
        (going_on c.args.search.now.body.now c.args.search.now.previous.now c.requires.search.shown c.args.point
            c.previous_of-points.result.now c.previous_of-points.ensures.each p).0 h.0,
      ),
      h.2,
    ))
    c.loop-before.invariant.reaches

pub returns-clause-all : goal.returns-clause-all
returns-clause-all c =
    λ p h. at_each (λ p. (DefinesAt c.args.search.now.body.now c.args.search.now.variable p → ⊥)
    → IsUnderNewMark c.loop-before.room.marks.items c.loop-before.room.heights.items c.args.turn p)
    c.previous_of-points.result.now
    (λ k below. c.loop-before.invariant.all k (omega arith)) p
    ((going_on c.args.search.now.body.now c.args.search.now.previous.now c.requires.search.shown c.args.point
    c.previous_of-points.result.now
    c.previous_of-points.ensures.each p).1 h.1) h.0
