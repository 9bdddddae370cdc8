use Rattle.std.proofs.Common.{arith}
use Rattle.nll_problem.proofs.AdjacencyLemmas.{graph_none, kept_none}
use Rattle.nll_problem.proofs.graph_builder.GraphBuilder.new.Goals as goal

pub invariant_of-result : goal.invariant_of-result
invariant_of-result c =
    rw (c.in_ok-next.ensures, c.new-2.ensures.items, c.in_ok-marks.ensures.items_if_clones_equal (λ y h. h))
    (kept_none _ _ (omega arith) (omega arith) (omega arith) (omega arith))

pub returns-clause-ok : goal.returns-clause-ok
returns-clause-ok c = rw c.new-2.ensures.items (graph_none _ _ _ c.in_ok-next.ensures)
