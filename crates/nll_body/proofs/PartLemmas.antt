-- The parts of a body that is sound can be made into its graph.
use Rattle.std.proofs.Common.{◌≤◌, length, sym, subst}
use Rattle.std.proofs.lemmas.List.{length-map}
use Rattle.nll_problem.specs.Graph.{Graph}
use Rattle.nll_problem.specs.Limits.{most_edges}
use Rattle.nll_types.specs.Rows.{tree_at}
use Rattle.nll_body.specs.Flat.{statements_in}
use Rattle.nll_body.specs.Bodies.{IsGraphOf}
use Rattle.nll_body.specs.Edges.{edge_count}
use Rattle.nll_body.specs.Making.{AreBlocks, AreEdgeEnds, HasPoints}
use Rattle.nll_body.specs.Parts.{body_of}
use Rattle.nll_body.specs.Sound.{IsSoundBody}
use Rattle.nll_body.specs.Typed.{meant_statement}
use Rattle.nll_body.specs.declared.parts.BodyParts.{BodyParts}
use Rattle.nll_body.proofs.GraphLemmas.{graph_shown}
use Rattle.nll_body.proofs.MeantLemmas.{few_edges, are_blocks, are_ends, has_points}

module _ (p : BodyParts) where
  pub parts_room : IsSoundBody (body_of p) → edge_count (statements_in p.points) ≤ most_edges
  parts_room sound = few_edges (λ r. r) (tree_at p.types.table.shapes p.types.regions.items)
      (statements_in p.points) most_edges sound.edge_limit

  pub parts_blocks : IsSoundBody (body_of p) → AreBlocks (length p.starts.items) (statements_in p.points)
  parts_blocks sound = are_blocks (λ r. r) (tree_at p.types.table.shapes p.types.regions.items)
      (statements_in p.points) (length p.starts.items) (λ q b i at h. sound.blocks q b i at h)

  pub parts_ends : IsSoundBody (body_of p) → AreEdgeEnds p.starts.items (statements_in p.points)
  parts_ends sound = are_ends (λ r. r) (tree_at p.types.table.shapes p.types.regions.items)
      (statements_in p.points) p.starts.items (λ q r i at leaves. sound.in_range q r (i, at, leaves))

  pub parts_shown : (graph : Graph) → HasPoints p.starts.items p.universals (statements_in p.points)
      (length (statements_in p.points)) graph → IsGraphOf (body_of p) graph
  parts_shown graph has = graph_shown (body_of p) graph
      (subst (λ n. HasPoints p.starts.items p.universals (body_of p).points n graph)
      (sym (length-map (statements_in p.points) (meant_statement p.types)))
      (has_points (λ r. r) (tree_at p.types.table.shapes p.types.regions.items) (statements_in p.points)
      p.starts.items p.universals (length (statements_in p.points)) graph has))
