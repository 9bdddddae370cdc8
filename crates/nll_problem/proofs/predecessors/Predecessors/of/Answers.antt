use Rattle.std.proofs.Common.{refl, subst, arith}
use Rattle.nll_problem.specs.Adjacency.{AreLists}
use Rattle.nll_problem.proofs.AdjacencyLemmas.{edges_counted, edges_exact, indices_kept}
use Rattle.nll_problem.proofs.predecessors.Predecessors.of.Goals as goal

pub turned-requires-clause-indices : goal.turned-requires-clause-indices
turned-requires-clause-indices c = indices_kept _ _ _ _ _ c.graph.invariant

pub turned-requires-clause-once : goal.turned-requires-clause-once
turned-requires-clause-once c = record { listed = refl; once = c.graph.invariant.successors.once }

pub turned-requires-clause-few_items : goal.turned-requires-clause-few_items
turned-requires-clause-few_items c =
    omega (arith, c.graph.invariant.sound.edge_limit, edges_counted c.graph.inside.next)

pub invariant_of-result : goal.invariant_of-result
invariant_of-result c =
    rw (← c.graph.view_is) (record {
      listed = subst (λ n. AreLists n c.in_ok-rows.rows) c.graph.invariant.successors.listed c.in_ok-rows.ensures.1;
      each = λ p q. let exact = edges_exact c.graph.inside.next p q in
          (λ h. exact.1 ((c.in_ok-rows.ensures.0 p q).0 h), λ h. (c.in_ok-rows.ensures.0 p q).1 (exact.0 h));
    })
