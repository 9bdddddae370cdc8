use Rattle.std.proofs.Common.{sym, arith}
use Rattle.nll_core.proofs.SearchLemmas.{spreading_first, spreading_more, spreading_done}
use Rattle.nll_core.proofs.search.Search.spread.Goals as goal

pub loop-place-init : goal.loop-place-init
loop-place-init g c = spreading_first _ _ _ c.requires.pending

pub visit_next-requires : goal.visit_next-requires
visit_next-requires g c = omega (arith, c.loop-place.invariant.adds.width, c.requires.width)

pub loop-place-smaller : goal.loop-place-smaller
loop-place-smaller g c = omega (arith, c.in_ok-visit_next.ensures.adds.count, c.in_ok-visit_next.ensures.adds.longer)

pub loop-place-preserved : goal.loop-place-preserved
loop-place-preserved g c =
    spreading_more _ _ _ _ _ _ (omega arith)
    (sym c.at-element.ensures) c.loop-place.invariant c.in_ok-visit_next.ensures

pub returns : goal.returns
returns g c = spreading_done _ _ _ _ (omega arith) c.loop-place.invariant
