-- Drop regions: the regions that must hold where a value of a type is dropped.
-- Source: RFC 2094, "Drop"; the cases are project's choice.
use Rattle.std.specs.Prelude.{◌≡◌, ◌⊎◌, ℕ, true, false, List, [], ◌∷◌, Some, slice_get}
use Rattle.nll_types.specs.Types.{TypeTree, TypeTrees, tuple, named, type_at, HasRegion}
use Rattle.nll_types.specs.Structs.{Struct, struct_at, field_type}
use Rattle.nll_types.specs.declared.parameter.Parameter.{Parameter}

-- the argument for the parameter of this place must hold where the struct's own drop runs: the
-- parameter isn't marked `?`
abbrev pub MustHoldAtDrop : List Parameter → ℕ → Type 0
MustHoldAtDrop parameters k = (p : Parameter) × (slice_get parameters k ≡ Some p)
    × (p.may_dangle ≡ false)

-- r must hold where the struct's own drop runs: it occurs in an argument whose parameter isn't
-- marked
abbrev pub IsOwnDropRegion : Struct → List ℕ → TypeTrees → ℕ → Type 0
IsOwnDropRegion d rs ts r = (d.has_drop ≡ true)
    × (((k : ℕ) × (slice_get rs k ≡ Some r) × MustHoldAtDrop d.regions k)
    ⊎ ((k : ℕ) × (t : TypeTree) × (type_at ts k ≡ Some t) × MustHoldAtDrop d.types k
    × HasRegion t r))

-- dropping a value of the first type drops one of the second: a part of a tuple, or a field of a
-- struct; an `int`, a reference or a function has none
abbrev pub Drops : List Struct → TypeTree → TypeTree → Type 0
Drops structs (tuple ts) u = (k : ℕ) × (type_at ts k ≡ Some u)
Drops structs (named s rs ts) u = (k : ℕ) × (field_type structs s rs ts k ≡ Some u)
Drops structs _ u = ⊥

-- a chain of these, possibly empty, leads from the first type by way of the list to the last
abbrev pub LeadsToType : List Struct → TypeTree → List TypeTree → TypeTree → Type 0
LeadsToType structs t [] u = t ≡ u
LeadsToType structs t (next ∷ way) u = Drops structs t next × LeadsToType structs next way u

-- r is a drop region of the type: a chain of drops leads to a struct whose own drop needs it
abbrev pub IsDropRegion : List Struct → TypeTree → ℕ → Type 0
IsDropRegion structs t r = (way : List TypeTree) × (s : ℕ) × (rs : List ℕ) × (ts : TypeTrees)
    × LeadsToType structs t way (named s rs ts) × IsOwnDropRegion (struct_at structs s) rs ts r
