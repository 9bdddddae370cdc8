use Rattle.std.proofs.Common.{◌<◌, refl, arith}
use borrow.Author.Count.{below_more}
use Rattle.nll_core.specs.Search.{IsIn, AddsOfKind}
use Rattle.nll_core.proofs.SearchLemmas.{adds_append, adds_weaker}
use Rattle.nll_core.proofs.known_outlives.visit_below.Goals as goal

pub loop-number-preserved : goal.loop-number-preserved
loop-number-preserved g c =
    let step : AddsOfKind (λ x. x < c.args.count) c.loop-number.search c.visit.new.self =
    adds_weaker _ _ (λ x h. omega (arith, h)) _ _ c.in_ok-visit.ensures.adds in
    record {
      adds = adds_append _ _ _ _ c.loop-number.invariant.adds step;
      all = below_more (IsIn c.visit.new.self.reached) _ (λ x h. step.kept x (c.loop-number.invariant.all x h))
          (c.in_ok-visit.ensures.all _ refl);
    }

pub returns : goal.returns
returns g c = record {
  adds = c.loop-number.invariant.adds;
  all = λ x h. c.loop-number.invariant.all x (omega (arith, h));
}
