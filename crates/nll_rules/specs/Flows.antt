-- What flows in a statement, and into what, in the words of what is known.
-- Source: project's choice. Only private contracts cite this file.
use Rattle.std.specs.Prelude.{◌≡◌, ℕ, true, List, map, Option, Some, slice_get}
use Rattle.nll_types.specs.Types.{TypeTree}
use Rattle.nll_types.specs.Structs.{Struct}
use Rattle.nll_types.specs.Places.{behind, type_of}
use Rattle.nll_types.specs.Operands.{Operand, operand_type}
use Rattle.nll_types.specs.Rows.{tree_at}
use Rattle.nll_types.specs.declared.place.Projection.TheVariants.{Field}
use Rattle.nll_types.specs.declared.typed.Typed.{Typed}
use Rattle.nll_body.specs.Flat.{argument_in, operand_in, path_in}
use Rattle.nll_body.specs.Typing.{agree}
use Rattle.nll_body.specs.declared.flat.FlatOperand.{FlatOperand}
use Rattle.nll_rules.specs.Knowing.{KnownTypes}
use Rattle.nll_rules.specs.Pairs.{AddsPairs, BothAsk}

-- ---- types

-- a type that is written
abbrev pub written_type : KnownTypes → Typed → TypeTree
written_type k ty = tree_at k.shapes k.regions ty

-- the type of the place of a number, where it has one
abbrev pub place_type : KnownTypes → ℕ → Option TypeTree
place_type k place = type_of k.structs k.variables (path_in k.lists place)

-- the type of an operand, where it has one
abbrev pub value_type : KnownTypes → FlatOperand → Option TypeTree
value_type k op = operand_type k.structs k.variables (operand_in k.lists op)

-- the operands of a call, each with the type of the parameter for which it is
abbrev pub inputs_of : KnownTypes → List (FlatOperand × Typed) → List (Operand × TypeTree)
inputs_of k args = map (λ a. (a.0, written_type k a.1)) (map (argument_in k.lists) args)

-- ---- types that agree

-- where the two types agree, the pairs that came into the list are those that they ask
abbrev pub AddsMet : KnownTypes → Option TypeTree → Option TypeTree → List (ℕ × ℕ) → List (ℕ × ℕ)
    → Type 0
AddsMet k one other old new =
    agree one other ≡ true → AddsPairs (BothAsk k.structs one other) old new

-- each of the operands agrees with the part at its place of the type that is made
abbrev pub PartsAgree : List Struct → List TypeTree → TypeTree → List Operand → Type 0
PartsAgree structs variables made ops = (k : ℕ) (op : Operand) → slice_get ops k ≡ Some op
    → agree (operand_type structs variables op) (behind structs (Field k) made) ≡ true

-- each of the operands agrees with the type of the parameter for which it is
abbrev pub InputsAgree : List Struct → List TypeTree → List (Operand × TypeTree) → Type 0
InputsAgree structs variables args = (k : ℕ) (op : Operand) (u : TypeTree)
    → slice_get args k ≡ Some (op, u)
    → agree (operand_type structs variables op) (Some u) ≡ true
