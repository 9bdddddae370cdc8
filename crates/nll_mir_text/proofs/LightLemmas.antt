-- What a light statement has: neither types nor blocks, and one edge.
use Rattle.std.proofs.Common.{◌≡◌, true, false, refl}
use Rattle.nll_body.specs.Exits.{edges_from}
use Rattle.nll_body.specs.Statements.{is_terminator}
use Rattle.nll_body.specs.Typing.{types_are_small}
use Rattle.nll_mir_grammar.specs.Lines.{statement_of_light}
use Rattle.nll_mir_grammar.specs.declared.light.Light.{Light}
use Rattle.nll_mir_grammar.specs.declared.light.Light.TheVariants.{Nop, Live, Dead}
use Rattle.nll_mir_text.specs.MirFaults.{has_targets, shapes_fit}
use Rattle.nll_mir_text.specs.MirSaid.{Said}
use Rattle.nll_mir_text.specs.MirSteps.{statement_meant}

-- Its targets, its types and their sizes are well, one edge leaves it, and a block goes on after it.
pub record IsPlain (s : Said) (l : Light) : Type 0 where
  pub blocks : has_targets s (statement_of_light l) ≡ true
  pub fits : shapes_fit s (statement_of_light l) ≡ true
  pub small : types_are_small s.structs s.variables (statement_meant s (statement_of_light l)) ≡ true
  pub edges : edges_from (statement_of_light l) ≡ 1
  pub ends : is_terminator (statement_of_light l) ≡ false

pub plain : (s : Said) (l : Light) → IsPlain s l
plain s Nop = record { blocks = refl; fits = refl; small = refl; edges = refl; ends = refl }
plain s (Live x) = record { blocks = refl; fits = refl; small = refl; edges = refl; ends = refl }
plain s (Dead x) = record { blocks = refl; fits = refl; small = refl; edges = refl; ends = refl }
