-- What a body of the code keeps. Source: project's choice. Only private contracts cite this file.
use Rattle.std.specs.Prelude.{◌≡◌, ℕ, List, [], map}
use Rattle.nll_problem.specs.Graph.{Graph}
use Rattle.nll_format.specs.Labels.{Labels, Points, numbers, blocks}
use Rattle.nll_types.specs.Declarations.{structs_of}
use Rattle.nll_types.specs.declared.body_types.BodyTypes.{BodyTypes}
use Rattle.nll_types.specs.declared.typed.Typed.{Typed}
use Rattle.nll_body.specs.Flat.{StatementLists, statements_in}
use Rattle.nll_body.specs.Bodies.{BodyText, IsGraphOf, labels_of}
use Rattle.nll_body.specs.Sound.{IsSoundBody}
use Rattle.nll_body.specs.Typed.{meant_statement, trees_at}

-- the first points of the blocks by which points are named
abbrev pub starts_of : Points → List ℕ
starts_of numbers = []
starts_of (blocks starts) = starts

-- the body that labels, a graph and these types and lists say
abbrev pub kept_body : Labels → List (ℕ × ℕ) → List (ℕ × ℕ) → BodyTypes → List Typed
    → StatementLists → Graph → BodyText
kept_body labels outlives asserts types variables points graph = record {
  names = labels.names;
  universals = graph.universals;
  outlives = outlives;
  asserts = asserts;
  structs = structs_of types.table.structs;
  variables = trees_at types variables;
  starts = starts_of labels.points;
  points = map (meant_statement types) (statements_in points);
}

-- The labels and the graph are the body's, and the body is sound.
pub record IsBodyKept (body : BodyText) (labels : Labels) (graph : Graph) : Type 0 where
  pub named : labels ≡ labels_of body
  pub shown : IsGraphOf body graph
  pub sound : IsSoundBody body
