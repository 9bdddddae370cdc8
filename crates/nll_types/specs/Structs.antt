-- Struct declarations, and the types of a struct's fields with its arguments substituted. Source:
-- RFC 2094, "Subtyping" (variance of parameters) and "Drop" (parameters that may dangle); the forms
-- are project's choice.
use Rattle.std.specs.Prelude.{◌≡◌, ◌<◌, ◌+◌, ℕ, zero, suc, Bool, false, List, [], map, length}
use Rattle.std.specs.Prelude.{slice_index_or, Option, option_map, All, take}
use Rattle.nll_types.specs.Types.{TypeTree, TypeTrees, int, parameter, reference, tuple, named}
use Rattle.nll_types.specs.Types.{function, none, more, type_at, type_count}
use Rattle.nll_types.specs.declared.parameter.Parameter.{Parameter}

-- A struct: its region parameters and its type parameters, each in the order of the declaration,
-- whether it has a drop of its own, and the types of its fields. In a field's type the region 0 is
-- 'static and k + 1 the region parameter k.
pub record Struct : Type 0 where
  pub regions : List Parameter
  pub types : List Parameter
  pub has_drop : Bool
  pub fields : TypeTrees

-- a struct that was never declared
abbrev pub no_struct : Struct
no_struct = record { regions = []; types = []; has_drop = false; fields = none }

-- the struct of a number
abbrev pub struct_at : List Struct → ℕ → Struct
struct_at structs s = slice_index_or structs s no_struct

-- what a region of a field's type becomes: 'static stays, a parameter becomes its argument
abbrev pub region_in : List ℕ → ℕ → ℕ
region_in regions zero = zero
region_in regions (suc k) = slice_index_or regions k zero

-- the argument for a type parameter
abbrev pub argument : TypeTrees → ℕ → TypeTree
argument none k = int
argument (more t ts) zero = t
argument (more t ts) (suc k) = argument ts k

-- A field's type with these region arguments and type arguments substituted for the parameters.
abbrev mutual
  pub put_in : List ℕ → TypeTrees → TypeTree → TypeTree
  put_in regions types int = int
  put_in regions types (parameter k) = argument types k
  put_in regions types (reference r m t) =
      reference (region_in regions r) m (put_in regions types t)
  put_in regions types (tuple ts) = tuple (put_in_all regions types ts)
  put_in regions types (named s rs ts) =
      named s (map (region_in regions) rs) (put_in_all regions types ts)
  put_in regions types (function ts t) =
      function (put_in_all regions types ts) (put_in regions types t)

  pub put_in_all : List ℕ → TypeTrees → TypeTrees → TypeTrees
  put_in_all regions types none = none
  put_in_all regions types (more t ts) = more (put_in regions types t) (put_in_all regions types ts)

-- the type of a field of a struct with these arguments, where it has that field
abbrev pub field_type : List Struct → ℕ → List ℕ → TypeTrees → ℕ → Option TypeTree
field_type structs s rs ts k = option_map (put_in rs ts) (type_at (struct_at structs s).fields k)

-- The type keeps to what is declared: its regions and type parameters have numbers below these, and
-- each struct that it names is one of these and takes as many region arguments and type arguments
-- as it has parameters.
abbrev mutual
  pub IsWellFormed : List Struct → ℕ → ℕ → TypeTree → Type 0
  IsWellFormed structs regions parameters int = Unit {0}
  IsWellFormed structs regions parameters (parameter k) = k < parameters
  IsWellFormed structs regions parameters (reference r m t) =
      (r < regions) × IsWellFormed structs regions parameters t
  IsWellFormed structs regions parameters (tuple ts) = AreWellFormed structs regions parameters ts
  IsWellFormed structs regions parameters (named s rs ts) = (s < length structs)
      × (length rs ≡ length (struct_at structs s).regions)
      × (type_count ts ≡ length (struct_at structs s).types)
      × All (λ r. r < regions) rs
      × AreWellFormed structs regions parameters ts
  IsWellFormed structs regions parameters (function ts t) =
      AreWellFormed structs regions parameters ts × IsWellFormed structs regions parameters t

  pub AreWellFormed : List Struct → ℕ → ℕ → TypeTrees → Type 0
  AreWellFormed structs regions parameters none = Unit {0}
  AreWellFormed structs regions parameters (more t ts) =
      IsWellFormed structs regions parameters t × AreWellFormed structs regions parameters ts

-- the fields keep to these structs and to the parameters of their own
abbrev pub HasGoodFields : List Struct → Struct → Type 0
HasGoodFields earlier d = AreWellFormed earlier (length d.regions + 1) (length d.types) d.fields

-- each struct's fields keep to the structs that were declared before it
abbrev pub AreInOrder : List Struct → Type 0
AreInOrder structs =
    (s : ℕ) → s < length structs → HasGoodFields (take s structs) (struct_at structs s)
