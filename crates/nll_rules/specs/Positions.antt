-- Where regions occur in types, and with which signs. Source: RFC 2094, "Subtyping" (variance); the
-- forms are project's choice.
use Rattle.std.specs.Prelude.{◌≡◌, ℕ, Bool, true, false, List, [], ◌∷◌, slice_get, Some}
use Rattle.std.specs.Prelude.{option_map, unwrap_or}
use Rattle.nll_types.specs.Types.{TypeTree, reference, tuple, named, function, type_at}
use Rattle.nll_types.specs.Structs.{Struct, struct_at}
use Rattle.nll_types.specs.declared.parameter.Parameter.{Parameter}
use Rattle.nll_types.specs.declared.parameter.Sign.{Sign}
use Rattle.nll_types.specs.declared.parameter.Sign.TheVariants.{Covariant, Contravariant, Invariant}

-- The product of two signs: that of a position inside another. Inside a covariant position each
-- sign stays, inside a contravariant one it is reversed, and inside an invariant one all are
-- invariant.
abbrev pub times : Sign → Sign → Sign
times Covariant s = s
times Contravariant Covariant = Contravariant
times Contravariant Contravariant = Covariant
times Contravariant Invariant = Invariant
times Invariant s = Invariant

-- A turn on the way to a region in a type: to a reference's own region, to what a reference, `mut`
-- or not, points to, to a part of a tuple, to a region argument of a struct, to a type argument of
-- one, to an argument of a function, or to its result. Parts and arguments are counted from 0.
pub data Turn : Type 0 where
  own : Turn
  target : Bool → Turn
  part : ℕ → Turn
  region_argument : ℕ → ℕ → Turn
  type_argument : ℕ → ℕ → Turn
  input : ℕ → Turn
  output : Turn

-- The region occurs in the type at the end of the path.
abbrev pub HasRegionAt : TypeTree → List Turn → ℕ → Type 0
HasRegionAt t [] r = ⊥
HasRegionAt (reference q m t) (own ∷ way) r = (way ≡ []) × (q ≡ r)
HasRegionAt (reference q m t) (target n ∷ way) r = (n ≡ m) × HasRegionAt t way r
HasRegionAt (tuple ts) (part k ∷ way) r =
    (t : TypeTree) × (type_at ts k ≡ Some t) × HasRegionAt t way r
HasRegionAt (named s rs ts) (region_argument n k ∷ way) r =
    (way ≡ []) × (n ≡ s) × (slice_get rs k ≡ Some r)
HasRegionAt (named s rs ts) (type_argument n k ∷ way) r =
    (t : TypeTree) × (n ≡ s) × (type_at ts k ≡ Some t) × HasRegionAt t way r
HasRegionAt (function ts u) (input k ∷ way) r =
    (t : TypeTree) × (type_at ts k ≡ Some t) × HasRegionAt t way r
HasRegionAt (function ts u) (output ∷ way) r = HasRegionAt u way r
HasRegionAt t way r = ⊥

-- the sign of a parameter, or this one where there is no such parameter
abbrev pub sign_or : List Parameter → ℕ → Sign → Sign
sign_or parameters k other = unwrap_or (option_map (λ p. p.sign) (slice_get parameters k)) other

-- the sign of what a reference points to: behind a `mut` one it is invariant
abbrev pub target_sign : Bool → Sign
target_sign false = Covariant
target_sign true = Invariant

-- the sign of a turn: an argument of a struct has the declared sign of its parameter; a function's
-- argument is contravariant, since it goes into the function, and its result is covariant
abbrev pub turn_sign : List Struct → Turn → Sign
turn_sign structs own = Covariant
turn_sign structs (target m) = target_sign m
turn_sign structs (part k) = Covariant
turn_sign structs (region_argument s k) = sign_or (struct_at structs s).regions k Invariant
turn_sign structs (type_argument s k) = sign_or (struct_at structs s).types k Invariant
turn_sign structs (input k) = Contravariant
turn_sign structs output = Covariant

-- the sign of a position: the product of the signs of the turns on the way to it
abbrev pub sign_of : List Struct → List Turn → Sign
sign_of structs [] = Covariant
sign_of structs (turn ∷ way) = times (turn_sign structs turn) (sign_of structs way)
