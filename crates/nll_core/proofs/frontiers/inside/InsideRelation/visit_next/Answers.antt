use Rattle.std.proofs.Common.{get_or, sym, ◌∙◌, arith}
use Rattle.std.proofs.lemmas.Bool.{false≢true}
use Rattle.std.proofs.lemmas.List.Elements.{Contains-get_or}
use Rattle.nll_core.proofs.SearchLemmas.{past_visits, next_visits, ends_visits}
use Rattle.nll_core.proofs.frontiers.inside.InsideRelation.visit_next.Goals as goal

pub returns-then-from-points : goal.returns-then-from-points
returns-then-from-points g c =
    past_visits c.args.self.now.graph.now
    (g.S.ElementSet.flags c.args.self.now.set.now) c.args.from c.points-points.ensures.sound
    (omega arith) c.args.search.now

pub visit_points-requires-clause-points : goal.visit_points-requires-clause-points
visit_points-requires-clause-points g c = λ k low h.
    let next = c.next_of.result.now in
    let is_next = (c.next_of.ensures.each (get_or next k 0)).0 (Contains-get_or next k 0 h) in
    let point = c.points-points.ensures.sound.edges_in_range c.from.inside.0 (get_or next k 0) is_next in
    omega arith

pub returns-in_ok-visit_range : goal.returns-in_ok-visit_range
returns-in_ok-visit_range g c =
    rw (← c.from.view_is)
    (ends_visits c.args.self.now.graph.now _ _ _ c.next_of.ensures.each _ _ c.points-points.ensures.value (omega arith)
    (c.is_return.ensures.0 c.if-is_return.true) _ _ _ c.in_ok-visit_points.ensures c.in_ok-visit_range.ensures)

pub returns-else-is_return : goal.returns-else-is_return
returns-else-is_return g c =
    rw (← c.from.view_is)
    (next_visits c.args.self.now.graph.now _ _ _ c.next_of.ensures.each _ _
    (λ h. false≢true (sym c.if-is_return.false ∙ c.is_return.ensures.1 h)) c.in_ok-visit_points.ensures)
