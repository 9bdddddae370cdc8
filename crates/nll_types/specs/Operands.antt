-- Operands: what the right side of a statement reads.
-- Source: project's choice.
use Rattle.std.specs.Prelude.{ℕ, Bool, List, [], ◌∷◌, Option, Some, None}
use Rattle.nll_types.specs.Types.{TypeTree, int, reference}
use Rattle.nll_types.specs.Structs.{Struct}
use Rattle.nll_types.specs.Places.{PlacePath, path_of, type_of}
use Rattle.nll_types.specs.declared.operand.Operand.{Operand as Written}
use Rattle.nll_types.specs.declared.operand.Operand.TheVariants.{Const, Copy, Move}

-- An operand: a constant, a place that is copied, or a place that is moved from.
pub data Operand : Type 0 where
  constant : Operand
  copied : PlacePath → Operand
  moved : PlacePath → Operand

-- an operand of the code
abbrev pub operand_of : Written → Operand
operand_of Const = constant
operand_of (Copy p) = copied (path_of p)
operand_of (Move p) = moved (path_of p)

-- the type of an operand over variables of these types, where it has one: a constant is an `int`
abbrev pub operand_type : List Struct → List TypeTree → Operand → Option TypeTree
operand_type structs variables constant = Some int
operand_type structs variables (copied p) = type_of structs variables p
operand_type structs variables (moved p) = type_of structs variables p

-- the place of an operand
abbrev pub place_in : Operand → List PlacePath
place_in constant = []
place_in (copied p) = p ∷ []
place_in (moved p) = p ∷ []

-- the type of a reference to a place of this type, where it has one
abbrev pub reference_to : ℕ → Bool → Option TypeTree → Option TypeTree
reference_to r m None = None
reference_to r m (Some t) = Some (reference r m t)
