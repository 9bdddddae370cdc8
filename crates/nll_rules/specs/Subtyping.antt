-- What a subtyping asks.
-- Source: RFC 2094, "Subtyping".
use Rattle.std.specs.Prelude.{◌≡◌, ◌⊎◌, ℕ, List}
use Rattle.nll_types.specs.Types.{TypeTree}
use Rattle.nll_types.specs.Structs.{Struct}
use Rattle.nll_types.specs.declared.parameter.Sign.{Sign}
use Rattle.nll_types.specs.declared.parameter.Sign.TheVariants.{Covariant, Contravariant, Invariant}
use Rattle.nll_rules.specs.Positions.{Turn, HasRegionAt, times, sign_of}

-- What is asked of a region of the first type and one of the second at a position of this sign: the
-- first region of the pair must outlive the second. A contravariant position swaps the pair, and an
-- invariant one asks both.
abbrev pub IsAsked : Sign → ℕ → ℕ → ℕ × ℕ → Type 0
IsAsked Covariant a b x = (a, b) ≡ x
IsAsked Contravariant a b x = (b, a) ≡ x
IsAsked Invariant a b x = ((a, b) ≡ x) ⊎ ((b, a) ≡ x)

-- the first type, at a position of this sign, must be a subtype of the second, and this asks the
-- pair: its regions occur in the two types at one position
abbrev pub SubtypeAsksBehind : List Struct → Sign → TypeTree → TypeTree → ℕ × ℕ → Type 0
SubtypeAsksBehind structs outer t u x = (way : List Turn) × (a b : ℕ) × HasRegionAt t way a
    × HasRegionAt u way b × IsAsked (times outer (sign_of structs way)) a b x

-- that the first type is a subtype of the second asks the pair
abbrev pub SubtypeAsks : List Struct → TypeTree → TypeTree → ℕ × ℕ → Type 0
SubtypeAsks structs t u x = SubtypeAsksBehind structs Covariant t u x
