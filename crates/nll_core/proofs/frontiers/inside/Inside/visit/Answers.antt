use Rattle.std.proofs.Common.{sym, ◌∙◌, subst}
use Rattle.std.proofs.lemmas.Bool.{false≢true}
use Rattle.nll_core.specs.Search.{IsIn}
use Rattle.nll_core.proofs.SearchLemmas.{adds_none, adds_weaker}
use Rattle.nll_core.proofs.frontiers.inside.Inside.visit.Goals as goal

pub returns-in_ok-visit : goal.returns-in_ok-visit
returns-in_ok-visit g c =
    let visits = c.in_ok-visit.ensures in
    let set = g.S.ElementSet.flags c.args.self.now.set.now in
    record {
      adds = adds_weaker _ _ (λ x is. (is, subst (IsIn set) (sym is) (sym c.has.ensures ∙ c.if-has.true))) _ _
          visits.adds;
      all = λ x h. visits.all x h.0;
    }

pub returns-else-has : goal.returns-else-has
returns-else-has g c =
    let set = g.S.ElementSet.flags c.args.self.now.set.now in
    record {
      adds = adds_none _ c.args.search.now;
      all = λ x h. absurd (false≢true (sym c.if-has.false ∙ (c.has.ensures ∙ subst (IsIn set) h.0 h.1)));
    }
