-- What is judged of types that meet: of places, of operands, and of types by their shapes.
-- Source: project's choice.
use Rattle.std.specs.Prelude.{◌≡◌, ℕ, Bool, false, ◌&&◌, nat_lt, List, map, Option, Some}
use Rattle.std.specs.List.{list_all}
use Rattle.nll_types.specs.Types.{TypeTree}
use Rattle.nll_types.specs.Operands.{Operand}
use Rattle.nll_types.specs.Places.{PlacePath}
use Rattle.nll_types.specs.Shapes.{same_shape}
use Rattle.nll_body.specs.Flat.{operand_in, path_in}
use Rattle.nll_body.specs.declared.flat.FlatOperand.{FlatOperand}
use Rattle.nll_body.specs.declared.judgement.Judgement.{Judgement}
use Rattle.nll_body.specs.declared.places.Places.{Places}

-- the place of a number
abbrev pub path_at : Places → ℕ → PlacePath
path_at ps n = path_in ps.statements.now n

-- an operand whose place goes by its number
abbrev pub operand_at : Places → FlatOperand → Operand
operand_at ps o = operand_in ps.statements.now o

-- the variables of the places are among the first this many
abbrev pub have_variables : ℕ → List PlacePath → Bool
have_variables count places = list_all (λ x. nat_lt x count) (map (λ p. p.variable) places)

-- both are there, and they are equal when regions are erased
abbrev pub agree : Option TypeTree → Option TypeTree → Bool
agree (Some t) (Some u) = same_shape t u
agree _ _ = false

-- It says whether the types fit, and whether they fit and are small.
pub record IsJudged (agree small : Bool) (judged : Judgement) : Type 0 where
  pub fits : judged.fits ≡ agree
  pub fits_small : judged.small ≡ (agree && small)
