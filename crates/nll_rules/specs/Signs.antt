-- The signs of a type's regions, in the order of its row: its shape has them.
-- Source: RFC 2094, "Subtyping" (variance); the order is project's choice.
use Rattle.std.specs.Prelude.{◌≡◌, ℕ, zero, suc, List, [], ◌∷◌, ◌++◌, Some, slice_get}
use Rattle.nll_types.specs.Shapes.{Shape, ShapeList, int_shape, parameter_shape, reference_shape}
use Rattle.nll_types.specs.Shapes.{tuple_shape, named_shape, function_shape, no_shape, more_shapes}
use Rattle.nll_types.specs.Structs.{Struct, struct_at}
use Rattle.nll_types.specs.declared.parameter.Sign.{Sign}
use Rattle.nll_types.specs.declared.parameter.Sign.TheVariants.{Contravariant, Invariant}
use Rattle.nll_rules.specs.Positions.{sign_or, target_sign, times}
use Rattle.nll_rules.specs.Subtyping.{IsAsked}
use Rattle.nll_rules.specs.declared.row_signs.PartSigns.{PartSigns}
use Rattle.nll_rules.specs.declared.row_signs.PartSigns.TheVariants.{Arguments, Same}

-- the first n of these signs
abbrev pub sign_row : (ℕ → Sign) → ℕ → List Sign
sign_row sign zero = []
sign_row sign (suc n) = sign 0 ∷ sign_row (λ k. sign (suc k)) n

-- the sign of the part at a place
abbrev pub part_sign : PartSigns → ℕ → Sign
part_sign (Same s) k = s
part_sign (Arguments outer ps) k = times outer (sign_or ps.now k Invariant)

abbrev mutual
  -- The signs of the regions of a type of this shape, where the type itself has the first sign.
  pub row_signs_of : List Struct → Sign → Shape → List Sign
  row_signs_of structs outer int_shape = []
  row_signs_of structs outer (parameter_shape k) = []
  row_signs_of structs outer (reference_shape m t) =
      row_signs_of structs (times outer (target_sign m)) t ++ outer ∷ []
  row_signs_of structs outer (tuple_shape ts) = all_signs structs (λ k. outer) ts
  row_signs_of structs outer (named_shape s n ts) =
      all_signs structs (λ k. times outer (sign_or (struct_at structs s).types k Invariant)) ts
      ++ sign_row (λ k. times outer (sign_or (struct_at structs s).regions k Invariant)) n
  row_signs_of structs outer (function_shape ts t) =
      all_signs structs (λ k. times outer Contravariant) ts ++ row_signs_of structs outer t

  -- those of types of these shapes, each of which has the sign of its place
  pub all_signs : List Struct → (ℕ → Sign) → ShapeList → List Sign
  all_signs structs sign no_shape = []
  all_signs structs sign (more_shapes t ts) =
      row_signs_of structs (sign 0) t ++ all_signs structs (λ k. sign (suc k)) ts

-- the regions at one place of two rows ask the pair, by the sign at that place
abbrev pub RowsAsk : List Sign → List ℕ → List ℕ → ℕ × ℕ → Type 0
RowsAsk ss rs qs x = (k : ℕ) × (a b : ℕ) × (s : Sign) × (slice_get rs k ≡ Some a)
    × (slice_get qs k ≡ Some b) × (slice_get ss k ≡ Some s) × IsAsked s a b x
