-- The body of the parts that a reader gathers.
-- Source: project's choice.
use Rattle.std.specs.Prelude.{map}
use Rattle.nll_types.specs.Declarations.{structs_of}
use Rattle.nll_body.specs.Flat.{statements_in}
use Rattle.nll_body.specs.Bodies.{BodyText}
use Rattle.nll_body.specs.Typed.{HaveRows, meant_statement, trees_at}
use Rattle.nll_body.specs.declared.parts.BodyParts.{BodyParts}

-- the body of these parts
abbrev pub body_of : BodyParts → BodyText
body_of p = record {
  names = p.names;
  universals = p.universals;
  outlives = p.outlives.items;
  asserts = p.asserts.items;
  structs = structs_of p.types.table.structs;
  variables = trees_at p.types p.variables.items;
  starts = p.starts.items;
  points = map (meant_statement p.types) (statements_in p.points);
}

-- each type of a variable, and each that is written in a statement, has its row
abbrev pub AreTyped : BodyParts → Type 0
AreTyped p = HaveRows p.types p.variables.items (statements_in p.points)
