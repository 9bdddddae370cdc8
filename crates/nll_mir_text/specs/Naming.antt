-- What the names in written types mean, and whether they and the arguments are right. Source:
-- project's choice; docs/FORMATS.md says the same in prose.
use Rattle.std.specs.Prelude.{ℕ, Bool, true, false, ◌&&◌, ◌||◌, nat_lt, if◌then◌else◌, List, []}
use Rattle.std.specs.Prelude.{◌∷◌, length, slice_index_or}
use Rattle.nll_format.specs.Names.{number_of}
use Rattle.nll_types.specs.Types.{TypeTree, TypeTrees, int, parameter, reference, tuple, named}
use Rattle.nll_types.specs.Types.{function, none, more}
use Rattle.nll_mir_grammar.specs.WrittenTypes.{WrittenName, WrittenType, WrittenTypes, Arguments}
use Rattle.nll_mir_grammar.specs.WrittenTypes.{no_argument, region_argument, type_argument}
use Rattle.nll_mir_grammar.specs.WrittenTypes as written

-- What names stand for where a type is written: regions, type parameters and structs by their
-- places in these rows. With each struct go the kinds of its arguments, in order: whether one is a
-- region.
pub record Scope : Type 0 where
  pub regions : List WrittenName
  pub parameters : List WrittenName
  pub structs : List WrittenName
  pub kinds : List (List Bool)

-- the name is one of these
abbrev pub is_name_among : List WrittenName → WrittenName → Bool
is_name_among names x = nat_lt (number_of names x) (length names)

-- The type that a written type means. A name that is a type parameter's means that parameter, and
-- any other a struct.
abbrev mutual
  pub meant : Scope → WrittenType → TypeTree
  meant s written.int = int
  meant s (written.reference r m t) = reference (number_of s.regions r) m (meant s t)
  meant s (written.tuple ts) = tuple (all_meant s ts)
  meant s (written.named n args) =
      if is_name_among s.parameters n then parameter (number_of s.parameters n)
      else named (number_of s.structs n) (regions_meant s args) (types_meant s args)
  meant s (written.function ts t) = function (all_meant s ts) (meant s t)

  pub all_meant : Scope → WrittenTypes → TypeTrees
  all_meant s written.none = none
  all_meant s (written.more t ts) = more (meant s t) (all_meant s ts)

  -- the regions among arguments
  pub regions_meant : Scope → Arguments → List ℕ
  regions_meant s no_argument = []
  regions_meant s (region_argument r args) = number_of s.regions r ∷ regions_meant s args
  regions_meant s (type_argument t args) = regions_meant s args

  -- the types among arguments
  pub types_meant : Scope → Arguments → TypeTrees
  types_meant s no_argument = none
  types_meant s (region_argument r args) = types_meant s args
  types_meant s (type_argument t args) = more (meant s t) (types_meant s args)

-- Whether each region's name in the type passes one test, and each other name, with the arguments
-- after it, another test.
abbrev mutual
  pub each_name : (WrittenName → Bool) → (WrittenName → Arguments → Bool) → WrittenType → Bool
  each_name p q written.int = true
  each_name p q (written.reference r m t) = p r && each_name p q t
  each_name p q (written.tuple ts) = each_name_in p q ts
  each_name p q (written.named n args) = q n args && each_name_among p q args
  each_name p q (written.function ts t) = each_name_in p q ts && each_name p q t

  pub each_name_in : (WrittenName → Bool) → (WrittenName → Arguments → Bool) → WrittenTypes → Bool
  each_name_in p q written.none = true
  each_name_in p q (written.more t ts) = each_name p q t && each_name_in p q ts

  pub each_name_among : (WrittenName → Bool) → (WrittenName → Arguments → Bool) → Arguments → Bool
  each_name_among p q no_argument = true
  each_name_among p q (region_argument r args) = p r && each_name_among p q args
  each_name_among p q (type_argument t args) = each_name p q t && each_name_among p q args

-- each name in the type is known: a region's, a type parameter's or a struct's
abbrev pub is_known : Scope → WrittenType → Bool
is_known s t =
    each_name (is_name_among s.regions) (λ n args. is_name_among s.parameters n || is_name_among
    s.structs n) t

-- for each argument whether it is a region
abbrev pub kinds_of : Arguments → List Bool
kinds_of no_argument = []
kinds_of (region_argument r args) = true ∷ kinds_of args
kinds_of (type_argument t args) = false ∷ kinds_of args

-- the kinds of arguments that a name takes: a type parameter takes none
abbrev pub kinds_taken : Scope → WrittenName → List Bool
kinds_taken s n =
    if is_name_among s.parameters n then []
    else slice_index_or s.kinds (number_of s.structs n) []

-- the two rows of kinds are one
abbrev pub same_kinds : List Bool → List Bool → Bool
same_kinds [] [] = true
same_kinds (true ∷ ks) (true ∷ ls) = same_kinds ks ls
same_kinds (false ∷ ks) (false ∷ ls) = same_kinds ks ls
same_kinds _ _ = false

-- each name in the type has arguments of the kinds that it takes
abbrev pub has_arguments : Scope → WrittenType → Bool
has_arguments s t = each_name (λ r. true) (λ n args. same_kinds (kinds_of args) (kinds_taken s n)) t
