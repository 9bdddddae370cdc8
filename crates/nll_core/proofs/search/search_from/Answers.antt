use Rattle.std.proofs.Common.{◌≡◌, false, length, ap, ◌∙◌, arith}
use Rattle.std.proofs.lemmas.List.{length-replicate}
use Rattle.nll_core.specs.Search.{Search}
use Rattle.nll_core.proofs.SearchLemmas.{begun, found}
use Rattle.nll_core.proofs.search.search_from.Goals as goal
use Rattle.nll_core.proofs.search.search_from.Goals.{In_ok-search}

-- how many elements the search is among
width : (g : _) (c : In_ok-search g) → length c.in_ok-search.search.reached ≡ c.count.result
width g c = ap (λ (s : Search). length s.reached) c.in_ok-search.ensures ∙ length-replicate c.count.result false

pub visit-requires : goal.visit-requires
visit-requires g c = omega (arith, width g (goal.at.visit-requires g c).In_ok-search, c.count.ensures, c.requires)

pub spread-requires-clause-width : goal.spread-requires-clause-width
spread-requires-clause-width g c = omega (
  arith,
  c.in_ok-visit.ensures.adds.width,
  width g (goal.at.spread-requires-clause-width g c).In_ok-search,
  c.count.ensures,
)

pub returns-clause-width : goal.returns-clause-width
returns-clause-width g c = c.in_ok-spread.ensures.adds.width
    ∙ (c.in_ok-visit.ensures.adds.width ∙ (width g (goal.at.returns-clause-width g c).In_ok-search ∙ c.count.ensures))

pub spread-requires-clause-pending : goal.spread-requires-clause-pending
spread-requires-clause-pending g c =
    begun (g.P.Relation.step c.args.relation.now) c.args.at c.count.result c.visit.new.self
    (rw c.in_ok-search.ensures at c.in_ok-visit.ensures)

pub returns-clause-found : goal.returns-clause-found
returns-clause-found g c =
    found (g.P.Relation.step c.args.relation.now) c.args.at c.count.result c.visit.new.self
    (rw c.in_ok-search.ensures at c.in_ok-visit.ensures) c.spread.new.self c.in_ok-spread.ensures
