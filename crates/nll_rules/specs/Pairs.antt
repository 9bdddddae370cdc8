-- What the code adds to its list of pairs.
-- Source: project's choice.
use Rattle.std.specs.Prelude.{◌≡◌, ◌⊎◌, ◌↔◌, ℕ, List, Contains, Option, Some, slice_get}
use Rattle.nll_types.specs.Types.{TypeTree}
use Rattle.nll_types.specs.Structs.{Struct}
use Rattle.nll_types.specs.Places.{behind}
use Rattle.nll_types.specs.Operands.{Operand, operand_type}
use Rattle.nll_types.specs.declared.place.Projection.TheVariants.{Field}
use Rattle.nll_rules.specs.Subtyping.{SubtypeAsks}

-- The pairs that came into the list are those of this kind.
pub record AddsPairs (kind : ℕ × ℕ → Type 0) (old new : List (ℕ × ℕ)) : Type 0 where
  pub each : (x : ℕ × ℕ) → Contains new x ↔ (Contains old x ⊎ kind x)

-- the pair is asked at one of the places
abbrev pub AtOne : (ℕ → ℕ × ℕ → Type 0) → ℕ × ℕ → Type 0
AtOne kind x = (k : ℕ) × kind k x

-- where there are both types, that the first is a subtype of the second asks the pair
abbrev pub BothAsk : List Struct → Option TypeTree → Option TypeTree → ℕ × ℕ → Type 0
BothAsk structs one other x = (t u : TypeTree) × (one ≡ Some t) × (other ≡ Some u)
    × SubtypeAsks structs t u x

-- the operand at a place of these, of which a type is made, asks the pair
abbrev pub PartAsks : List Struct → List TypeTree → TypeTree → List Operand → ℕ → ℕ × ℕ → Type 0
PartAsks structs variables made ops k x = (op : Operand) × (slice_get ops k ≡ Some op)
    × BothAsk structs (operand_type structs variables op) (behind structs (Field k) made) x

-- the operand at a place of these, each for a parameter of a type, asks the pair
abbrev pub InputAsks : List Struct → List TypeTree → List (Operand × TypeTree) → ℕ → ℕ × ℕ
    → Type 0
InputAsks structs variables args k x = (op : Operand) × (u : TypeTree)
    × (slice_get args k ≡ Some (op, u))
    × BothAsk structs (operand_type structs variables op) (Some u) x

-- the first region is one of these, and the second is this one
abbrev pub OneOutlives : List ℕ → ℕ → ℕ × ℕ → Type 0
OneOutlives regions r x = Contains regions x.0 × (x.1 ≡ r)
