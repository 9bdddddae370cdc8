-- The references on which a reborrow rests.
-- Source: RFC 2094, "Reborrow constraints" (supporting prefixes).
use Rattle.std.specs.Prelude.{◌≡◌, ◌<◌, ℕ, Bool, true, List, take, slice_get, Some}
use Rattle.nll_types.specs.Types.{TypeTree, reference}
use Rattle.nll_types.specs.Structs.{Struct}
use Rattle.nll_types.specs.Places.{PlacePath, type_of}
use Rattle.nll_types.specs.declared.place.Projection.TheVariants.{Deref}

-- the prefix of a place with its first n projections
abbrev pub prefix : ℕ → PlacePath → PlacePath
prefix n p = record { variable = p.variable; projections = take n p.projections }

-- behind its first n projections the place goes through a reference of the region a, `mut` or not
abbrev pub GoesThrough : List Struct → List TypeTree → PlacePath → ℕ → ℕ → Bool → Type 0
GoesThrough structs variables p n a m = (slice_get p.projections n ≡ Some Deref)
    × (t : TypeTree) × (type_of structs variables (prefix n p) ≡ Some (reference a m t))

-- A reborrow of the place rests on the region a: the place goes through a reference of this region,
-- and behind it through `mut` references alone.
abbrev pub RestsOn : List Struct → List TypeTree → PlacePath → ℕ → Type 0
RestsOn structs variables p a = (n : ℕ) × (m : Bool) × GoesThrough structs variables p n a m
    × ((k b : ℕ) (o : Bool) → n < k → GoesThrough structs variables p k b o → o ≡ true)
