-- Types as trees, with their regions.
-- Source: RFC 2094, "Subtyping" and "Reborrow constraints" speak of such types; the forms are
-- project's choice.
use Rattle.std.specs.Prelude.{◌≡◌, ◌⊎◌, ℕ, zero, suc, ◌+◌, Bool, List, Option, Some, None, Contains}

mutual
  -- Regions and structs go by their numbers. A type parameter occurs only in the fields of a
  -- struct.
  pub data TypeTree : Type 0 where
    int : TypeTree
    parameter : ℕ → TypeTree
    reference : ℕ → Bool → TypeTree → TypeTree
    tuple : TypeTrees → TypeTree
    named : ℕ → List ℕ → TypeTrees → TypeTree
    -- a function: the types of its arguments, and that of its result
    function : TypeTrees → TypeTree → TypeTree

  -- types in a row: the parts of a tuple, the fields of a struct, its type arguments, or the
  -- arguments of a function
  pub data TypeTrees : Type 0 where
    none : TypeTrees
    more : TypeTree → TypeTrees → TypeTrees

-- the type at this place of the row, counted from 0
abbrev pub type_at : TypeTrees → ℕ → Option TypeTree
type_at none k = None
type_at (more t ts) zero = Some t
type_at (more t ts) (suc k) = type_at ts k

-- how many types are in the row
abbrev pub type_count : TypeTrees → ℕ
type_count none = 0
type_count (more t ts) = type_count ts + 1

-- How many nodes a type has: each `int`, reference, tuple, struct, type parameter and function is
-- one, regions are none.
abbrev mutual
  pub nodes : TypeTree → ℕ
  nodes int = 1
  nodes (parameter k) = 1
  nodes (reference r m t) = nodes t + 1
  nodes (tuple ts) = nodes_of_all ts + 1
  nodes (named s rs ts) = nodes_of_all ts + 1
  nodes (function ts t) = nodes_of_all ts + nodes t + 1

  pub nodes_of_all : TypeTrees → ℕ
  nodes_of_all none = 0
  nodes_of_all (more t ts) = nodes t + nodes_of_all ts

-- The region is written in the type: of a reference, among the arguments of a struct, or in a type
-- that is part of it.
abbrev mutual
  pub HasRegion : TypeTree → ℕ → Type 0
  HasRegion int r = ⊥
  HasRegion (parameter k) r = ⊥
  HasRegion (reference q m t) r = (q ≡ r) ⊎ HasRegion t r
  HasRegion (tuple ts) r = AnyHasRegion ts r
  HasRegion (named s rs ts) r = Contains rs r ⊎ AnyHasRegion ts r
  HasRegion (function ts t) r = AnyHasRegion ts r ⊎ HasRegion t r

  pub AnyHasRegion : TypeTrees → ℕ → Type 0
  AnyHasRegion none r = ⊥
  AnyHasRegion (more t ts) r = HasRegion t r ⊎ AnyHasRegion ts r
