use Rattle.std.proofs.Common.{Contains, slice_index, subst, sym, refl, arith}
use borrow.Author.Count.{below_more}
use Rattle.std.proofs.lemmas.List.Elements.{Contains-get_or}
use Rattle.nll_core.specs.Search.{IsIn, Within, AddsOfKind}
use Rattle.nll_core.proofs.SearchLemmas.{adds_append, adds_weaker, covers_contained}
use Rattle.nll_core.proofs.frontiers.inside.Inside.visit_points.Goals as goal

pub loop-point-preserved : goal.loop-point-preserved
loop-point-preserved g c =
    let set = g.S.ElementSet.flags c.args.self.now.set.now in
    let points = c.args.points.now in
    let step : AddsOfKind (Within set (Contains points)) c.loop-point.search c.visit.new.search =
    adds_weaker _ _ (λ x h. (
      subst (Contains points) (sym h.0)
          (Contains-get_or points c.loop-point.point-index 0 c.loop-point-test.true),
      h.1,
    )) _ _ c.in_ok-visit.ensures.adds
    in
    record {
      adds = adds_append _ _ _ _ c.loop-point.invariant.adds step;
      all = below_more (λ k. IsIn set (slice_index points k) → IsIn c.visit.new.search.reached (slice_index points k)) _
          (λ k h s. step.kept _ (c.loop-point.invariant.all k h s)) (λ h. c.in_ok-visit.ensures.all _ (refl, h));
    }

pub returns : goal.returns
returns g c = record {
  adds = c.loop-point.invariant.adds;
  all = λ x h. covers_contained (λ x. IsIn (g.S.ElementSet.flags c.args.self.now.set.now) x
      → IsIn c.loop-point.search.reached x) c.args.points.now
      (λ k within. c.loop-point.invariant.all k (omega arith)) x h.0 h.1;
}
