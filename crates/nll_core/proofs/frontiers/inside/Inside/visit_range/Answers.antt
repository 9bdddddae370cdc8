use Rattle.std.proofs.Common.{⊎_elim, arith}
use Rattle.std.proofs.lemmas.Bool.{cases_eq}
use Rattle.nll_core.specs.Search.{IsInRange, Within, AddsOfKind}
use Rattle.nll_core.proofs.SearchLemmas.{adds_append, adds_weaker}
use Rattle.nll_core.proofs.frontiers.inside.Inside.visit_range.Goals as goal

pub loop-number-preserved : goal.loop-number-preserved
loop-number-preserved g c =
    let set = g.S.ElementSet.flags c.args.self.now.set.now in
    let step : AddsOfKind (Within set (IsInRange c.args.from c.args.to)) c.loop-number.search c.visit.new.search =
    adds_weaker _ _ (λ x h. ((omega (arith, h.0), omega (arith, h.0)), h.1)) _ _ c.in_ok-visit.ensures.adds in
    record {
      adds = adds_append (Within set (IsInRange c.args.from c.args.to)) _ _ _ c.loop-number.invariant.adds step;
      all = λ x l h s. ⊎_elim
          (λ same. c.in_ok-visit.ensures.all x (same, s))
          (λ other. step.kept x (c.loop-number.invariant.all x l (omega arith) s))
          (cases_eq x c.loop-number.number);
    }

pub returns : goal.returns
returns g c = record {
  adds = c.loop-number.invariant.adds;
  all = λ x h. c.loop-number.invariant.all x h.0.0 (omega (arith, h.0)) h.1;
}
