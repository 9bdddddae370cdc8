use Rattle.std.proofs.Common.{◌+◌, ◌-◌, length}
use Rattle.nll_core.specs.Search.{missing}
use Rattle.nll_core.proofs.SearchLemmas.{Spreading}
use Rattle.nll_core.proofs.search.Search.spread.Given as goal

abbrev pub invariant-loop-place : goal.invariant-loop-place
invariant-loop-place g l = Spreading (g.P.Relation.step l.relation) l.fn.self l.self l.place

abbrev pub decreases-loop-place : goal.decreases-loop-place
decreases-loop-place g l = (length l.self.list - l.place) + missing l.self.reached
